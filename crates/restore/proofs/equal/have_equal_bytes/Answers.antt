use Rattle.std.proofs.Common.{◌≡◌, ◌∙◌, arith, take, drop, length, length-take, length-drop, length-append, IsTrue}
use Rattle.restore.proofs.Pieces.{all_equal, more_equal}
use Rattle.restore.proofs.equal.have_equal_bytes.Goals as goal

pub loop-at-preserved : goal.loop-at-preserved
loop-at-preserved g c =
    let at = c.loop-at.at in
    let piece = c.min-piece.result in
    let front = length-take piece c.loop-at.first in
    let behind = length-take piece c.loop-at.second in
    let shorter = length-drop piece c.loop-at.first in
    let fewer = length-drop piece c.loop-at.second in
    let first = length-append c.are_pieces_equal.new.first (drop piece c.loop-at.first) in
    let second = length-append c.are_pieces_equal.new.second (drop piece c.loop-at.second) in
    record {
      one = λ bytes held.
          (let (x, holds, same) = c.loop-at.invariant.one bytes held in
          let (y, after, also) = c.are_pieces_equal.ensures.one x holds in (y, after, also ∙ same));
      two = λ bytes held.
          (let (x, holds, same) = c.loop-at.invariant.two bytes held in
          let (y, after, also) = c.are_pieces_equal.ensures.two x holds in (y, after, also ∙ same));
      within = omega (arith, c.min-piece.ensures);
      some = omega (arith, c.are_pieces_equal.auto.first, c.min-piece.ensures);
      fits = omega (arith, c.are_pieces_equal.auto.first, c.are_pieces_equal.auto.second, c.min-piece.ensures);
      same = λ bytes others held also.
          (let (u, holds, (same, long)) = c.in_ok-len.ensures.step bytes held in
          let (w, there, (is, far)) = c.in_ok-len-2.ensures.step others also in
          let (x, one, x_is) = c.loop-at.invariant.one bytes held in
          let (y, two, y_is) = c.loop-at.invariant.two others also in
          let equal = c.in_ok-are_pieces_equal.ensures.equal bytes others (rw x_is at one) (rw y_is at two) (omega (arith, c.min-piece.ensures)) (omega (arith, c.min-piece.ensures)) in
          let true_is : IsTrue c.in_ok-are_pieces_equal.field-0 = c.if-not-branch.false in
          let many : length (take piece c.loop-at.first) ≡ piece = omega (arith, c.min-piece.ensures) in
          more_equal bytes others at piece (c.loop-at.invariant.same bytes others held also) (rw many at (equal true_is)));
    }

pub returns : goal.returns
returns g c = λ bytes others held also.
    (let (u, holds, (same, long)) = c.in_ok-len.ensures.step bytes held in
    let (w, there, (is, far)) = c.in_ok-len-2.ensures.step others also in
    λ _. all_equal bytes others c.loop-at.at (omega arith) (omega arith) (c.loop-at.invariant.same bytes others held also))
