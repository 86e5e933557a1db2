use Rattle.tape.proofs.Words.{◌≡◌, ℕ, ◌+◌, slice_get, entries_in}
use Rattle.tape.proofs.scan.nth_entry.Given as goal

abbrev pub invariant-loop : goal.invariant-loop
invariant-loop l = (k : ℕ) → slice_get (entries_in l.file) (l.counter + k) ≡ slice_get (entries_in l.rest) k
