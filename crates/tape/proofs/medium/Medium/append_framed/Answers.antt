use Rattle.tape.proofs.Words.{Err, refl, err_from_is_err_and}
use Rattle.tape.proofs.MediumRuns.{run_call}
use Rattle.tape.proofs.Appends.{append_call, appends_on, appends_end}
use Rattle.tape.proofs.medium.Medium.append_framed.Goals as goal

pub returns-in_err-append : goal.returns-in_err-append
returns-in_err-append g c =
    rw ((err_from_is_err_and c.from_residual.result c.from_residual.ensures.1).1) (append_call (appends_end _ _ _ refl c.in_err-append.ensures))

pub returns-in_err-append-2 : goal.returns-in_err-append-2
returns-in_err-append-2 g c =
    rw ((err_from_is_err_and c.from_residual-in_err-append-2.result c.from_residual-in_err-append-2.ensures.1).1)
    (append_call (appends_on _ _ (Err (record {})) refl c.in_ok-append.ensures (appends_end _ _ _ refl c.in_err-append-2.ensures)))

pub returns : goal.returns
returns g c =
    append_call (appends_on _ _ c.append-3.result refl c.in_ok-append.ensures
    (appends_on _ _ c.append-3.result refl c.in_ok-append-2.ensures (run_call c.append-3.ensures)))
