use Rattle.std.proofs.Common.{◌≡◌, ◌-◌, ◌≤◌, All, length}
use Rattle.hold_table.specs.declared.table.TheConstants.{SEAT_LIMIT}
use Rattle.rmtd_serve.specs.Folders.{stacks_of}
use Rattle.rmtd_serve.proofs.folders.seat_stacks.Given as goal

-- the stacks made so far
abbrev pub invariant-seats : goal.invariant-seats
invariant-seats g l = (length l.all.items ≤ SEAT_LIMIT)
    × All (λ s. length s.rows ≡ length l.arguments) l.all.items
    × All (λ s. s ≡ stacks_of l.arguments l.bin l.capacity) l.all.items

abbrev pub decreases-seats : goal.decreases-seats
decreases-seats g l = SEAT_LIMIT - length l.all.items
