use Rattle.dump_run.proofs.Words.{arith}
use Rattle.dump_run.proofs.checkpoint.counts.read_counts.Goals as goal

pub returns-in_default : goal.returns-in_default
returns-in_default c = record {
  counts = c.loop-rest.counts.items;
  rest = c.loop-rest.rest.now;
  good = c.loop-rest.invariant.0;
  split = c.loop-rest.invariant.1;
  bad = grind (arith, c.in_default.ensures);
  number = omega arith;
}
