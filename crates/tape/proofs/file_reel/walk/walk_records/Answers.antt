use Rattle.tape.proofs.Words.{inl, inr, arith, HasWalkedRecords}
use Rattle.tape.proofs.MediumRuns.{look, look_on}
use Rattle.tape.proofs.Walks.{goes_on, goes_end, records_on, mark_ends, records_end}
use Rattle.tape.proofs.file_reel.walk.walk_records.Goals as goal

pub returns-in_default-clause-run : goal.returns-in_default-clause-run
returns-in_default-clause-run g c =
    look_on c.loop-left.invariant.run (rw c.in_default.is at c.in_ok-passed.ensures.run)
    (λ x goes none. goes_end (HasWalkedRecords c.args.way) _ goes (λ t file. records_end c.loop-left.left file (inr (none t file))))

pub returns-then-passed-clause-run : goal.returns-then-passed-clause-run
returns-then-passed-clause-run g c =
    look_on c.loop-left.invariant.run (rw (c.in-Some.is, c.if-passed.true) at c.in_ok-passed.ensures.run)
    (λ x goes found. goes_end (HasWalkedRecords c.args.way) _ goes (λ t file. let p = found t file in mark_ends c.loop-left-test.true p.2 p.1))

pub loop-left-preserved : goal.loop-left-preserved
loop-left-preserved g c = record {
  run = look_on c.loop-left.invariant.run (rw c.in-Some.is at c.in_ok-passed.ensures.run)
      (λ x goes found. goes_on (HasWalkedRecords c.args.way) c.in-Some.passed goes found
      (λ t u walked p. records_on c.loop-left-test.true (rw c.if-passed.false at p)));
  within = omega arith;
}

pub returns-clause-run : goal.returns-clause-run
returns-clause-run g c =
    look c.loop-left.invariant.run (λ x goes. goes_end (HasWalkedRecords c.args.way) _ goes
    (λ t file. records_end c.loop-left.left file (inl (omega arith))))
