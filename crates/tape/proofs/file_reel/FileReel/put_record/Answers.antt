use Rattle.tape.proofs.Words.{◌+◌, [], ◌∷◌, length, refl, sym, append-nil, arith, err_from_is_err_and, Record, image_of}
use Rattle.tape.proofs.Writing.{image_length}
use Rattle.tape.proofs.Putting.{puts_whole, puts_part, one_record}
use Rattle.tape.proofs.file_reel.FileReel.put_record.Goals as goal

pub returns-in_err-put_record-clause-run : goal.returns-in_err-put_record-clause-run
returns-in_err-put_record-clause-run g c =
    let written = Record c.args.bytes.now ∷ [] in
    let image = image_of (Record c.args.bytes.now) in
    let p = err_from_is_err_and c.from_residual.result c.from_residual.ensures.1 in
    rw (← c.self.view_is, p.1) (puts_part _ _ written image (length c.args.bytes.now + 8) c.in_err-put_record.field-0.0 p.0 (one_record c.args.bytes.now c.requires.record_is)
    (sym (append-nil image)) refl refl c.in_err-put_record.ensures)

pub returns-clause-run : goal.returns-clause-run
returns-clause-run g c =
    let written = Record c.args.bytes.now ∷ [] in
    let image = image_of (Record c.args.bytes.now) in
    rw (← c.self.view_is) (puts_whole _ _ written image (length c.args.bytes.now + 8) c.in_ok-put_record.field-0 tt (one_record c.args.bytes.now c.requires.record_is)
    (sym (append-nil image)) (omega (arith, image_length (Record c.args.bytes.now))) refl c.in_ok-put_record.ensures)
