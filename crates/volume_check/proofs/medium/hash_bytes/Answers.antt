use Rattle.std.proofs.Common.{◌∙◌, length-take, arith}
use Rattle.tape.proofs.MediumRuns.{run_then, no_error, no_bytes_twice}
use Rattle.volume_check.proofs.Hashed.{piece_hashed}
use Rattle.volume_check.proofs.medium.hash_bytes.Goals as goal

pub loop-at-preserved : goal.loop-at-preserved
loop-at-preserved g c = record {
  run = run_then c.loop-at.invariant.run c.in_ok-count.ensures.run (λ f. f) no_error (λ f. absurd f) no_bytes_twice
      (λ x y z held first step. (
        step.0 ∙ first.0,
        piece_hashed x y c.loop-at.at _ c.in_ok-count.count c.loop-at.hasher c.hash_piece.new.hasher first.0 first.1 step.1,
      ));
  within = omega (arith, c.in_ok-count.ensures.limit, length-take c.min-piece.result c.loop-at.room);
}
