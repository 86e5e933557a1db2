use Rattle.tape.proofs.Words.{inl, inr, arith, HasWalkedMarks}
use Rattle.tape.proofs.MediumRuns.{look, look_on}
use Rattle.tape.proofs.Walks.{goes_on, goes_end, marks_on, marks_end}
use Rattle.tape.proofs.file_reel.walk.walk_files.Goals as goal

pub returns-in_default-clause-run : goal.returns-in_default-clause-run
returns-in_default-clause-run g c =
    look_on c.loop-left.invariant.run (rw c.in_default.is at c.in_ok-passed.ensures.run)
    (λ x goes none. goes_end (HasWalkedMarks c.args.way) _ goes (λ t file. marks_end c.loop-left.left file (inr (none t file))))

pub loop-left-preserved-then-passed : goal.loop-left-preserved-then-passed
loop-left-preserved-then-passed g c = record {
  run = look_on c.loop-left.invariant.run (rw c.in-Some.is at c.in_ok-passed.ensures.run)
      (λ x goes found. goes_on (HasWalkedMarks c.args.way) c.in-Some.passed goes found (λ t u walked. marks_on c.loop-left-test.true (grind arith)));
  within = omega arith;
}

pub loop-left-preserved : goal.loop-left-preserved
loop-left-preserved g c = record {
  run = look_on c.loop-left.invariant.run (rw c.in-Some.is at c.in_ok-passed.ensures.run)
      (λ x goes found. goes_on (HasWalkedMarks c.args.way) c.in-Some.passed goes found (λ t u walked. marks_on c.loop-left-test.true (grind arith)));
  within = c.loop-left.invariant.within;
}

pub returns-clause-run : goal.returns-clause-run
returns-clause-run g c =
    look c.loop-left.invariant.run (λ x goes. goes_end (HasWalkedMarks c.args.way) _ goes
    (λ t file. marks_end c.loop-left.left file (inl (omega arith))))
