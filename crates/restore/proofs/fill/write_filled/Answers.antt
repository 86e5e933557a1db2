use Rattle.restore.proofs.Writing.{is_fault}
use Rattle.restore.proofs.Zeros.{begun_before, filled_up}
use Rattle.restore.specs.Partial.{zeros}
use Rattle.restore.proofs.fill.write_filled.Goals as goal

pub returns-in_err-left-clause-written : goal.returns-in_err-left-clause-written
returns-in_err-left-clause-written g c = λ reels bytes held are.
    rw (is_fault c.from_residual.ensures.1) (begun_before _ _ c.args.total bytes (zeros c.args.total) (c.in_err-left.ensures.written reels bytes held are))

pub returns-clause-written : goal.returns-clause-written
returns-clause-written g c = λ reels bytes held are.
    (let now = c.in_ok-left.ensures.written reels bytes held are in
    filled_up _ _ _ c.args.total c.in_ok-left.left bytes c.write_zeros.result now.0 now.1 c.write_zeros.ensures)
