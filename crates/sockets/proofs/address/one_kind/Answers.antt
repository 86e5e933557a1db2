use Rattle.sockets.proofs.Paths.{not_both}
use Rattle.sockets.proofs.address.one_kind.Goals as goal

pub returns : goal.returns
returns c = not_both
