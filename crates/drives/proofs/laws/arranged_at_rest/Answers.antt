use Rattle.drives.proofs.ToldOrder.{may_told}
use Rattle.drives.proofs.laws.arranged_at_rest.Goals as goal

pub returns : goal.returns
returns c = may_told
