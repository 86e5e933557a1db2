use Rattle.tape.proofs.Words.{◌*◌, ℕ, replicate, refl, arith, length-replicate, All-replicate, err_from_is_err_and, IsTapeEntry, Mark}
use Rattle.tape.proofs.Writing.{marks_image}
use Rattle.tape.proofs.Putting.{puts_whole, puts_part, ends_in}
use Rattle.tape.proofs.file_reel.FileReel.put_marks.Goals as goal

pub returns-in_err-put_marks-clause-run : goal.returns-in_err-put_marks-clause-run
returns-in_err-put_marks-clause-run g c =
    let count = c.args.count in
    let p = err_from_is_err_and c.from_residual.result c.from_residual.ensures.1 in
    rw (← c.self.view_is, p.1) (puts_part _ _ (replicate count Mark) (replicate (4 * count) 0) (4 * count) c.in_err-put_marks.field-0.0 p.0
    (All-replicate IsTapeEntry count Mark tt) (marks_image count) refl refl c.in_err-put_marks.ensures)

pub returns-clause-run : goal.returns-clause-run
returns-clause-run g c =
    let count = c.args.count in
    rw (← c.self.view_is) (puts_whole _ _ (replicate count Mark) (replicate (4 * count) 0) (4 * count) c.in_ok-put_marks.field-0 tt
    (All-replicate IsTapeEntry count Mark tt) (marks_image count) (omega (arith, length-replicate {A = ℕ} (4 * count) 0)) refl c.in_ok-put_marks.ensures)

pub returns-clause-exact : goal.returns-clause-exact
returns-clause-exact g c =
    let count = c.args.count in
    rw (← c.self.view_is) (ends_in _ _ _ (replicate count Mark) (replicate (4 * count) 0) c.in_ok-put_marks.field-0
    (marks_image count) c.in_ok-put_marks.ensures)
