use Rattle.dump_client.proofs.Attempt.{◌≤◌, ◌-◌, ◌++◌, ℕ, List, length, take, Wanted, IsReaderWaiting}
use Rattle.dump_client.proofs.listen.listen.Given as goal

abbrev pub invariant-loop-at : goal.invariant-loop-at
invariant-loop-at l =
    (l.at ≤ length l.piece)
    × ((wanted : Wanted) × (bytes : List ℕ) × IsReaderWaiting wanted l.reader bytes)
    × ((wanted : Wanted) (bytes : List ℕ) → IsReaderWaiting wanted l.initial.reader bytes → IsReaderWaiting wanted l.reader (bytes ++ take l.at l.piece))

abbrev pub decreases-loop-at : goal.decreases-loop-at
decreases-loop-at l = length l.piece - l.at
