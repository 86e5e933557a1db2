use Rattle.dump_run.proofs.Ordering.{IsUpTo}
use Rattle.dump_run.proofs.checkpoint.order.ordered.Given as goal

-- the counts so far are in order
abbrev pub invariant-loop-at : goal.invariant-loop-at
invariant-loop-at l = IsUpTo l.run l.counts l.at l.first
