use Rattle.sockets.proofs.Colon.{cut_parts}
use Rattle.sockets.proofs.address.split_port.Goals as goal

pub returns : goal.returns
returns c = cut_parts c.args.text.now _ c.rsplit_once.ensures.cases
