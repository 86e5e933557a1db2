use Rattle.std.proofs.Common.{◌≤◌, length}
use Rattle.catalog.specs.Run.{IsUpTo}
use Rattle.catalog.proofs.Places.{NoneFrom}
use Rattle.catalog.proofs.last_line.last_up_to.Given as goal

abbrev pub invariant-loop-left : goal.invariant-loop-left
invariant-loop-left l = (l.left ≤ length l.places) × NoneFrom (IsUpTo l.id l.number) l.lines l.base l.places l.left

abbrev pub decreases-loop-left : goal.decreases-loop-left
decreases-loop-left l = l.left
