use Rattle.tape.proofs.Words.{inl, inr, refl, arith, medium_kind_of, Record, Write, Fault, Full}
use Rattle.tape.proofs.Devices.{record_short}
use Rattle.tape.proofs.ReelCalls.{none_call, put_call, no_room}
use Rattle.tape.proofs.file_reel.FileReelReel.write.Goals as goal

pub returns-then-not-has_room : goal.returns-then-not-has_room
returns-then-not-has_room g c =
    let short = no_room c.has_room.ensures.answer c.if-not-has_room.true in
    none_call (medium_kind_of g.M.Medium) c.args.self.now (Write c.args.bytes.now) (Fault Full) (λ is. cc) (λ is. cc) (inr (inl refl)) (λ is. cc)
    (λ t at. (omega arith, refl))

pub returns : goal.returns
returns g c =
    let room = c.has_room.ensures.answer.0 c.if-not-has_room.false in
    put_call _ _ (Write c.args.bytes.now) c.put_record.result c.put_record.ensures.device c.put_record.ensures.run c.put_record.ensures.exact
    (inl refl)
    (inr (inr (inl refl))) (λ t u at put. (omega arith, put)) (λ t u at put. (omega arith, record_short t u (Record c.args.bytes.now) put))
