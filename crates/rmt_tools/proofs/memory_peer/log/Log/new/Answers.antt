use Rattle.std.proofs.Common.{rules}
use Rattle.rmt_tools.proofs.memory_peer.log.Log.new.Goals as goal

pub returns : goal.returns
returns c = search rules
