use Rattle.std.proofs.Common.{◌+◌, ◌++◌, ◌∷◌, drop, ap, sym, append_assoc, ◌∙◌, arith}
use Rattle.std.proofs.lemmas.List.{drop_more}
use Rattle.restore.proofs.Writing.{is_fault, volume_begun, volume_written}
use Rattle.restore.proofs.write.write_volumes.Goals as goal

pub returns-in_err-left-clause-written : goal.returns-in_err-left-clause-written
returns-in_err-left-clause-written g c = λ reels payload held are.
    (let (done, rest, is, here, written, left_is) = c.loop-volume.invariant.written reels payload held are in
    let index = c.loop-volume.volume-index in
    let volume = c.volume-item.result in
    let next = drop_more c.args.volumes.now index volume (omega arith) ∙ ap (λ f. f ∷ drop (index + 1) c.args.volumes.now) (sym c.volume-item.is) in
    let (blocks, more, split, found, later) = (rw next at here) in
    let (x, holds, same) = c.loop-volume.invariant.same reels held in
    let all = is ∙ ap (λ l. done ++ l) split ∙ sym (append_assoc done blocks more) in
    rw (is_fault c.from_residual.ensures.1) (volume_begun _ _ _ c.args.left c.loop-volume.left done blocks written left_is more payload all
    (c.in_err-left.ensures.written reels blocks (rw same at holds) found)))

pub loop-volume-preserved : goal.loop-volume-preserved
loop-volume-preserved g c = record {
  room = omega arith;
  same = λ reels held.
      (let (x, holds, same) = c.loop-volume.invariant.same reels held in
      let (y, after, also) = c.write_volume.ensures.same x holds in (y, after, also ∙ same));
  written = λ reels payload held are.
      (let (done, rest, is, here, written, left_is) = c.loop-volume.invariant.written reels payload held are in
      let index = c.loop-volume.volume-index in
      let volume = c.volume-item.result in
      let next = drop_more c.args.volumes.now index volume (omega arith) ∙ ap (λ f. f ∷ drop (index + 1) c.args.volumes.now) (sym c.volume-item.is) in
      let (blocks, more, split, found, later) = (rw next at here) in
      let (x, holds, same) = c.loop-volume.invariant.same reels held in
      let all = is ∙ ap (λ l. done ++ l) split ∙ sym (append_assoc done blocks more) in
      let now = c.in_ok-left.ensures.written reels blocks (rw same at holds) found in
      let both = volume_written _ _ _ c.args.left c.loop-volume.left done blocks written left_is c.in_ok-left.left now.0 now.1 in
      (done ++ blocks, more, all, later, both.0, both.1));
}
