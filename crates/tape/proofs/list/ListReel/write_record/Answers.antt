use Rattle.tape.proofs.Words.{◌∷◌, [], inr, refl, ap, arith, err_from_is_err_and, FileTape, MemoryBytes, list_view, Record, Write}
use Rattle.tape.proofs.Held.{seen_offset, put_step}
use Rattle.tape.proofs.ReelCalls.{no_room}
use Rattle.tape.proofs.list.ListReel.write_record.Goals as goal

pub returns-then-not-has_room-clause-step : goal.returns-then-not-has_room-clause-step
returns-then-not-has_room-clause-step c =
    let short = no_room c.has_room.ensures.answer c.if-not-has_room.true in
    let at = seen_offset c.self.inside.reel c.self.invariant in
    rw (← c.self.view_is) (inr (λ comes. absurd (omega arith)), (omega arith, refl))

pub returns-in_err-reserve-clause-step : goal.returns-in_err-reserve-clause-step
returns-in_err-reserve-clause-step c =
    let room = c.has_room.ensures.answer.0 c.if-not-has_room.false in
    let at = seen_offset c.self.inside.reel c.self.invariant in
    let p = err_from_is_err_and c.from_residual.result c.from_residual.ensures.1 in
    let refused = c.in_err-reserve.ensures.room in
    rw (← c.self.view_is, p.1, p.2, refused.0) (omega arith, ap (λ (r : FileTape MemoryBytes). (list_view r).tape) refused.1)

pub invariant_of-self-2 : goal.invariant_of-self-2
invariant_of-self-2 c =
    let room = c.has_room.ensures.answer.0 c.if-not-has_room.false in
    let at = seen_offset c.self.inside.reel c.self.invariant in
    (put_step c.self.inside.reel c.reserve.new.self c.put_record.new.reel c.args.trouble c.put_record.result (Write c.args.bytes.now)
    (Record c.args.bytes.now ∷ [])
    c.self.invariant c.reserve.ensures.bytes c.reserve.ensures.offset c.put_record.ensures.step c.put_record.ensures.answer
    (omega arith) refl (λ u is. (omega arith, is))).0

pub returns-clause-step : goal.returns-clause-step
returns-clause-step c =
    let room = c.has_room.ensures.answer.0 c.if-not-has_room.false in
    let at = seen_offset c.self.inside.reel c.self.invariant in
    rw (← c.self.view_is)
    (put_step c.self.inside.reel c.reserve.new.self c.put_record.new.reel c.args.trouble c.put_record.result (Write c.args.bytes.now)
    (Record c.args.bytes.now ∷ [])
    c.self.invariant c.reserve.ensures.bytes c.reserve.ensures.offset c.put_record.ensures.step c.put_record.ensures.answer
    (omega arith) refl (λ u is. (omega arith, is))).1
