use Rattle.volume_check.proofs.OneHolding.{volume_of}
use Rattle.volume_check.proofs.laws.one_volume.Goals as goal

pub returns : goal.returns
returns c = volume_of c.one_label.ensures.one
