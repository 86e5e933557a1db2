use Rattle.std.proofs.Common.{ℕ, ◌+◌, ◌≤◌, drop, length}
use Rattle.catalog.specs.Run.{HasBegun}
use Rattle.catalog.proofs.catalog.Catalog.begun.Given as goal

abbrev pub invariant-loop-at : goal.invariant-loop-at
invariant-loop-at l = (l.at ≤ length l.self) × (l.count + l.at ≤ length l.self) × HasBegun l.id (drop l.at l.self) l.count

abbrev pub decreases-loop-at : goal.decreases-loop-at
decreases-loop-at l = l.at
