use Rattle.dump_run.proofs.Words.{◌≡◌, ◌++◌, length, map, All, AreNumbers, count_line, joined}
use Rattle.dump_run.proofs.checkpoint.counts.read_counts.Given as goal

abbrev pub invariant-loop-rest : goal.invariant-loop-rest
invariant-loop-rest l = All AreNumbers l.counts.items × (l.bytes ≡ joined (map count_line l.counts.items) ++ l.rest)

abbrev pub decreases-loop-rest : goal.decreases-loop-rest
decreases-loop-rest l = length l.rest
