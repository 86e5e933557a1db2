use Rattle.std.proofs.Common.{◌≤◌, length}
use Rattle.catalog.specs.Run.{Begins}
use Rattle.catalog.proofs.Places.{NoneFrom}
use Rattle.catalog.proofs.last_line.last_begun.Given as goal

abbrev pub invariant-loop-left : goal.invariant-loop-left
invariant-loop-left l = (l.left ≤ length l.places) × NoneFrom (Begins l.id) l.lines l.base l.places l.left

abbrev pub decreases-loop-left : goal.decreases-loop-left
decreases-loop-left l = l.left
