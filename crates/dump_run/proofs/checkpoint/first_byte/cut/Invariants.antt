use Rattle.dump_run.proofs.Words.{ℕ, ◌<◌, ◌≢◌, get_or}
use Rattle.dump_run.proofs.checkpoint.first_byte.cut.Given as goal

abbrev pub invariant-loop-at : goal.invariant-loop-at
invariant-loop-at l = (i : ℕ) → i < l.at → get_or l.text i 0 ≢ l.byte
