use Rattle.rmt_wire.proofs.Words.{[], ap, append-nil, arith, length, length-append, subst, sym, ℕ, ◌∙◌, ◌≡◌, held, Unread}
use Rattle.rmt_wire.proofs.Given.{more_dropped, more_known, filled, at_front, nothing_came, none_more, filled_with_none, room_left}
use Rattle.rmt_wire.proofs.request.reader.RequestReader.fill.Goals as goal

pub returns-then-count-gt0-clause-came : goal.returns-then-count-gt0-clause-came
returns-then-count-gt0-clause-came g c =
    let came = c.in_ok-count.ensures.came in
    let is = at_front c.self.inside.buffer.items _ came.0 _ c.self.inside.start c.remove.ensures.items came.2 in
    filled _ came.0 _ c.self.inside.dropped is _ c.discard_data.ensures.discardable _ _ _ _ c.self.view_is came.1 came.3

pub returns-else-count-gt0-clause-came : goal.returns-else-count-gt0-clause-came
returns-else-count-gt0-clause-came g c =
    let came = c.in_ok-count.ensures.came in
    let zero : c.in_ok-count.count ≡ 0 = omega arith in
    let same = none_more _ came.0 _ (came.1 ∙ zero) (at_front c.self.inside.buffer.items _ came.0 _ c.self.inside.start c.remove.ensures.items came.2) in
    filled_with_none _ _ _ _ came.0 _ (ap (λ l. held l c.self.inside.dropped) same ∙ c.self.view_is) zero came.1 came.3

pub returns-else-count-gt0-clause-ended : goal.returns-else-count-gt0-clause-ended
returns-else-count-gt0-clause-ended g c = λ zero.
    let inside = c.self.inside in
    let came = c.in_ok-count.ensures.came in
    let same = none_more _ came.0 _ (came.1 ∙ zero) (at_front inside.buffer.items _ came.0 _ inside.start c.remove.ensures.items came.2) in
    let room = room_left _ inside.dropped c.requires.0 c.self.invariant.4
    (subst (λ h. Unread h c.requires.0) (sym c.self.view_is) c.requires.1) c.requires.2 in
    let all = ap (length {A = ℕ}) (at_front inside.buffer.items _ [] _ inside.start c.remove.ensures.items (sym (append-nil _))) in (
      c.in_ok-count.ensures.ended zero (omega (arith, room, all, length-append {A = ℕ}, c.len-most.ensures.value)),
      (nothing_came _ _ came.0 (came.1 ∙ zero) came.3, ap (λ l. held l inside.dropped) same ∙ c.self.view_is),
    )

pub discard_data-requires-clause-dropped : goal.discard_data-requires-clause-dropped
discard_data-requires-clause-dropped g c =
    let came = c.in_ok-count.ensures.came in
    more_dropped _ came.0 _ _ (at_front c.self.inside.buffer.items _ came.0 _ c.self.inside.start c.remove.ensures.items came.2) c.self.invariant.3

pub discard_data-requires-clause-line : goal.discard_data-requires-clause-line
discard_data-requires-clause-line g c =
    let came = c.in_ok-count.ensures.came in
    let is = at_front c.self.inside.buffer.items _ came.0 _ c.self.inside.start c.remove.ensures.items came.2 in
    more_known _ came.0 _ c.self.inside.dropped is c.self.inside.line c.self.invariant.5
