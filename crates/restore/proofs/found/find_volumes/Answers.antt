use Rattle.std.proofs.Common.{◌∙◌, arith}
use Rattle.restore.proofs.found.find_volumes.Goals as goal

pub loop-number-preserved : goal.loop-number-preserved
loop-number-preserved g c = record {
  room = omega arith;
  same = λ reels held.
      (let (x, holds, same) = c.loop-number.invariant.same reels held in
      let (y, after, also) = c.look.ensures.same x holds in (y, after, also ∙ same));
  found = λ reels held.
      (let (x, holds, same) = c.loop-number.invariant.same reels held in
      let here = c.in_ok-volume.ensures.found reels (rw same at holds) (omega arith) in
      c.in_ok-add_found.ensures reels c.args.wanted.now c.loop-number.number here (c.loop-number.invariant.found reels held));
}
