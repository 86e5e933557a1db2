use Rattle.std.proofs.Common.{◌+◌, ◌++◌, ◌∷◌, drop, ap, sym, subst, append_assoc, ◌≡◌, ◌∙◌, arith}
use Rattle.std.proofs.lemmas.List.{drop_more}
use Rattle.restore.proofs.Writing.{begun, is_fault, more_written}
use Rattle.restore.specs.Spaced.{AreFilled, part_bytes}
use Rattle.restore.proofs.fill.write_parts.Goals as goal

pub returns-in_err-left-clause-written : goal.returns-in_err-left-clause-written
returns-in_err-left-clause-written g c = λ reels bytes held are.
    (let (done, rest, is, here, written, left_is) = c.loop-volume.invariant.written reels bytes held are in
    let index = c.loop-volume.volume-index in
    let volume = c.volume-item.result in
    let next = drop_more c.args.volumes.now index volume (omega arith) ∙ ap (λ f. f ∷ drop (index + 1) c.args.volumes.now) (sym c.volume-item.is) in
    let (blocks, more, split, found, later) = (rw next at here) in
    let (x, holds, same) = c.loop-volume.invariant.same reels held in
    let part = part_bytes c.loop-volume.end volume blocks in
    let all = is ∙ ap (λ l. done ++ l) split ∙ sym (append_assoc done part more) in
    rw (is_fault c.from_residual.ensures.1, all) (begun _ _ _ c.args.left c.loop-volume.left done part written left_is more
    (c.in_err-left.ensures.written reels blocks (rw same at holds) found)))

pub loop-volume-preserved : goal.loop-volume-preserved
loop-volume-preserved g c = record {
  room = omega arith;
  same = λ reels held.
      (let (x, holds, same) = c.loop-volume.invariant.same reels held in
      let (y, after, also) = c.write_part.ensures.same x holds in (y, after, also ∙ same));
  written = λ reels bytes held are.
      (let (done, rest, is, here, written, left_is) = c.loop-volume.invariant.written reels bytes held are in
      let index = c.loop-volume.volume-index in
      let volume = c.volume-item.result in
      let next = drop_more c.args.volumes.now index volume (omega arith) ∙ ap (λ f. f ∷ drop (index + 1) c.args.volumes.now) (sym c.volume-item.is) in
      let (blocks, more, split, found, later) = (rw next at here) in
      let (x, holds, same) = c.loop-volume.invariant.same reels held in
      let part = part_bytes c.loop-volume.end volume blocks in
      let all = is ∙ ap (λ l. done ++ l) split ∙ sym (append_assoc done part more) in
      let now = c.in_ok-left.ensures.written reels blocks (rw same at holds) found in
      let both = more_written _ _ _ c.args.left c.loop-volume.left done part written left_is c.in_ok-left.left now.0 now.1 in
      let end : c.volume-item.result.label.first ≡ c.from.result = omega arith in
      (done ++ part, more, all, subst (λ n. AreFilled reels (n + volume.blocks) (drop (index + 1) c.args.volumes.now) more) end later, both.0, both.1));
}
