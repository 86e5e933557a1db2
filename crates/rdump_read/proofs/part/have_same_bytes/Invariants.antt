use Rattle.std.proofs.Common.{◌-◌, ◌≤◌}
use Rattle.rdump_read.proofs.part.have_same_bytes.Given as goal

abbrev pub invariant-loop-at : goal.invariant-loop-at
invariant-loop-at l = l.at ≤ l.length

abbrev pub decreases-loop-at : goal.decreases-loop-at
decreases-loop-at l = l.length - l.at
