use Rattle.std.proofs.Common.{length}
use Rattle.rmt_server.specs.Memory.{in_memory}
use Rattle.rmt_server.specs.State.{state, IsAt}
use Rattle.rmt_tools.proofs.memory_peer.far_end.carry_all.Given as goal

abbrev pub invariant-loop-request : goal.invariant-loop-request
invariant-loop-request l = IsAt in_memory (state l.drives l.session)

abbrev pub decreases-loop-request : goal.decreases-loop-request
decreases-loop-request l = length l.wire.kept
