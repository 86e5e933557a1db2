use Rattle.tape.proofs.Words.{◌≡◌, ◌*◌, ℕ, replicate, refl, arith, subst, err_from_is_err_and, MediumStep, Append}
use Rattle.tape.proofs.MediumRuns.{run_call, run_as, run_then, no_error}
use Rattle.tape.proofs.Writing.{cut_append, cut_failed}
use Rattle.tape.proofs.file_reel.image.put_marks.Goals as goal

pub returns-in_err-cut : goal.returns-in_err-cut
returns-in_err-cut g c =
    rw ((err_from_is_err_and c.from_residual.result c.from_residual.ensures.1).1) (run_as (run_call c.in_err-cut.ensures) (λ f. refl) (λ f. refl) (omega arith)
    (λ x y held step. cut_failed c.args.at (replicate (4 * c.args.count) 0) _ _ x y step))

pub returns : goal.returns
returns g c =
    let zeros = replicate (4 * c.args.count) 0 in
    let size : c.from.result * 4 ≡ 4 * c.args.count = omega arith in
    let r = c.append_zeros.result in
    run_then (run_call c.in_ok-cut.ensures) c.append_zeros.ensures no_error (λ f. f) (λ f. f) (omega arith)
    (λ x y z held first next.
    let P : ℕ → Type 0 = λ k. MediumStep (Append (replicate k 0) r) y z in
    cut_append c.args.at zeros r tt x y z first (subst P size next))
