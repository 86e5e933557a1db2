use Rattle.rdump_cat.proofs.Known.{only_first}
use Rattle.rdump_cat.proofs.knowing.catalog_of.Goals as goal

pub returns-in-None-clause-known : goal.returns-in-None-clause-known
returns-in-None-clause-known c = only_first c.args.catalogs.now c.args.id.now c.in-Some.first c.in-Some.ensures c.in-None.ensures
