use Rattle.tape.proofs.Words.{inl, inr, refl, arith, medium_kind_of, WriteMarks, Fault, Full}
use Rattle.tape.proofs.Devices.{marks_short}
use Rattle.tape.proofs.ReelCalls.{none_call, put_call, no_room}
use Rattle.tape.proofs.file_reel.FileReel.write_marks.Goals as goal

pub returns-then-not-has_room : goal.returns-then-not-has_room
returns-then-not-has_room g c =
    let short = no_room c.has_room.ensures.answer c.if-not-has_room.true in
    none_call (medium_kind_of g.M.Medium) c.args.self.now (WriteMarks c.args.count) (Fault Full) (λ is. cc) (λ is. cc) (inr (omega arith, inl refl))
    (λ is. cc)
    (λ t at. (omega arith, omega arith, refl))

pub returns : goal.returns
returns g c =
    let room = c.has_room.ensures.answer.0 c.if-not-has_room.false in
    put_call _ _ (WriteMarks c.args.count) c.put_marks.result c.put_marks.ensures.device c.put_marks.ensures.run c.put_marks.ensures.exact (inl refl)
    (inr (omega arith, inr (inl refl))) (λ t u at put. inr (omega arith, omega arith, put))
    (λ t u at put. (omega arith, omega arith, marks_short t u c.args.count put))
