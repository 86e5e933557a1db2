use Rattle.tape.proofs.Words.{refl, arith, err_from_is_err_and, Record, image_of}
use Rattle.tape.proofs.MediumRuns.{run_call, run_as, run_then, no_error}
use Rattle.tape.proofs.Writing.{cut_append, cut_failed}
use Rattle.tape.proofs.file_reel.image.put_record.Goals as goal

pub returns-in_err-cut : goal.returns-in_err-cut
returns-in_err-cut g c =
    rw ((err_from_is_err_and c.from_residual.result c.from_residual.ensures.1).1) (run_as (run_call c.in_err-cut.ensures) (λ f. refl) (λ f. refl) (omega arith)
    (λ x y held step. cut_failed c.args.at (image_of (Record c.args.bytes.now)) _ _ x y step))

pub returns : goal.returns
returns g c =
    run_then (run_call c.in_ok-cut.ensures) c.append_record.ensures no_error (λ f. f) (λ f. f) (omega arith)
    (λ x y z held first next. cut_append c.args.at (image_of (Record c.args.bytes.now)) c.append_record.result tt x y z first next)
