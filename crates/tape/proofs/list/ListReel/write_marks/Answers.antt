use Rattle.tape.proofs.Words.{inr, refl, ap, replicate, arith, err_from_is_err_and, FileTape, MemoryBytes, list_view, Mark, WriteMarks}
use Rattle.tape.proofs.Held.{seen_offset, put_step}
use Rattle.tape.proofs.ReelCalls.{no_room}
use Rattle.tape.proofs.list.ListReel.write_marks.Goals as goal

pub returns-then-not-has_room-clause-step : goal.returns-then-not-has_room-clause-step
returns-then-not-has_room-clause-step c =
    let short = no_room c.has_room.ensures.answer c.if-not-has_room.true in
    let at = seen_offset c.self.inside.reel c.self.invariant in
    let same = c.from-size.ensures in
    rw (← c.self.view_is) (inr (λ comes. absurd (let fits = comes.1 in omega arith)), (omega arith, omega arith, refl))

pub returns-in_err-reserve-clause-step : goal.returns-in_err-reserve-clause-step
returns-in_err-reserve-clause-step c =
    let room = c.has_room.ensures.answer.0 c.if-not-has_room.false in
    let at = seen_offset c.self.inside.reel c.self.invariant in
    let same = c.from-size.ensures in
    let p = err_from_is_err_and c.from_residual.result c.from_residual.ensures.1 in
    let refused = c.in_err-reserve.ensures.room in
    rw (← c.self.view_is, p.1, p.2, refused.0) (omega arith, omega arith, ap (λ (r : FileTape MemoryBytes). (list_view r).tape) refused.1)

pub invariant_of-self-2 : goal.invariant_of-self-2
invariant_of-self-2 c =
    let room = c.has_room.ensures.answer.0 c.if-not-has_room.false in
    let at = seen_offset c.self.inside.reel c.self.invariant in
    let same = c.from-size.ensures in
    (put_step c.self.inside.reel c.reserve.new.self c.put_marks.new.reel c.args.trouble c.put_marks.result (WriteMarks c.args.count)
    (replicate c.args.count Mark)
    c.self.invariant c.reserve.ensures.bytes c.reserve.ensures.offset c.put_marks.ensures.step c.put_marks.ensures.answer
    (omega arith, omega arith) refl (λ u is. inr (omega arith, omega arith, is))).0

pub returns-clause-step : goal.returns-clause-step
returns-clause-step c =
    let room = c.has_room.ensures.answer.0 c.if-not-has_room.false in
    let at = seen_offset c.self.inside.reel c.self.invariant in
    let same = c.from-size.ensures in
    rw (← c.self.view_is)
    (put_step c.self.inside.reel c.reserve.new.self c.put_marks.new.reel c.args.trouble c.put_marks.result (WriteMarks c.args.count)
    (replicate c.args.count Mark)
    c.self.invariant c.reserve.ensures.bytes c.reserve.ensures.offset c.put_marks.ensures.step c.put_marks.ensures.answer
    (omega arith, omega arith) refl (λ u is. inr (omega arith, omega arith, is))).1
