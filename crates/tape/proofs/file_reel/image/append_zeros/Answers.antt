use Rattle.tape.proofs.Words.{◌+◌, ◌≤◌, length, refl, length-take, arith, err_from_is_err_and}
use Rattle.tape.proofs.MediumRuns.{run_call, run_then}
use Rattle.tape.proofs.Writing.{zeros_more, zeros_part}
use Rattle.tape.proofs.file_reel.image.append_zeros.Goals as goal

pub returns-in_err-append : goal.returns-in_err-append
returns-in_err-append g c =
    let size = c.min-size.result in
    let fits : size ≤ length c.args.row.now = omega arith in
    let within : c.loop-done.done + size ≤ c.args.count = omega arith in
    rw ((err_from_is_err_and c.from_residual.result c.from_residual.ensures.1).1)
    (run_then c.loop-done.invariant.run (run_call c.in_err-append.ensures) (λ f. f) (λ f. refl) (λ f. refl) (omega (arith, length-take size c.args.row.now))
    (λ x y z held first next. zeros_part x y z c.args.row.now c.loop-done.done size c.args.count _ _ c.requires.zeros fits within first next))

pub loop-done-preserved : goal.loop-done-preserved
loop-done-preserved g c =
    let size = c.min-size.result in
    let fits : size ≤ length c.args.row.now = omega arith in
    record {
      run = run_then c.loop-done.invariant.run (run_call c.in_ok-append.ensures) (λ f. f) (λ f. cc) (λ f. absurd f) (omega (arith, length-take size c.args.row.now))
          (λ x y z held first next. zeros_more x y z c.args.row.now c.loop-done.done size c.requires.zeros fits first next);
      within = omega arith;
    }
