use Rattle.volume_check.proofs.OneHolding.{one_of}
use Rattle.volume_check.proofs.laws.one_holding.Goals as goal

pub returns : goal.returns
returns c = one_of c.one_label.ensures.one
