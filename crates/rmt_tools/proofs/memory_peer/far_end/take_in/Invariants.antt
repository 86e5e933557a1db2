use Rattle.std.proofs.Common.{length}
use Rattle.rmt_server.specs.Memory.{in_memory}
use Rattle.rmt_server.specs.State.{state, IsAt}
use Rattle.rmt_tools.proofs.memory_peer.far_end.take_in.Given as goal

abbrev pub invariant-loop-rest : goal.invariant-loop-rest
invariant-loop-rest l = IsAt in_memory (state l.drives l.session)

abbrev pub decreases-loop-rest : goal.decreases-loop-rest
decreases-loop-rest l = length l.rest
