use Rattle.catalog.proofs.OneCatalog.{one_list, no_bad_line}
use Rattle.catalog.proofs.laws.one_catalog.Goals as goal

pub returns-clause-one : goal.returns-clause-one
returns-clause-one c = one_list

pub returns-clause-good : goal.returns-clause-good
returns-clause-good c = no_bad_line
