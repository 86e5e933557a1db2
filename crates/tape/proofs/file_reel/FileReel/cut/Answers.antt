use Rattle.tape.proofs.Words.{[], refl, arith, append-nil, sym, ◌∙◌, All-nil, err_from_is_err_and, IsTapeEntry}
use Rattle.tape.proofs.MediumRuns.{run_call, run_as, no_bytes}
use Rattle.tape.proofs.Writing.{cut_failed}
use Rattle.tape.proofs.Putting.{puts_whole, puts_part}
use Rattle.tape.proofs.file_reel.FileReel.cut.Goals as goal

pub returns-in_err-cut-clause-run : goal.returns-in_err-cut-clause-run
returns-in_err-cut-clause-run g c =
    let p = err_from_is_err_and c.from_residual.result c.from_residual.ensures.1 in
    rw (← c.self.view_is, p.1) (puts_part _ _ [] [] 0 c.in_err-cut.field-0.0 p.0 (All-nil IsTapeEntry) refl refl refl
    (run_as (run_call c.in_err-cut.ensures) (λ f. f) (λ f. f) no_bytes
    (λ x y held step. cut_failed c.self.inside.offset [] c.in_err-cut.field-0.0 c.in_err-cut.field-0.0 x y step)))

pub returns-clause-run : goal.returns-clause-run
returns-clause-run g c =
    rw (← c.self.view_is) (puts_whole _ _ [] [] 0 tt tt (All-nil IsTapeEntry) refl (omega arith) refl
    (run_as (run_call c.in_ok-cut.ensures) (λ f. f) (λ f. f) no_bytes (λ x y held step. step ∙ sym (append-nil _))))
