use Rattle.tape.proofs.Words.{arith}
use Rattle.tape.proofs.Scanning.{nth_none}
use Rattle.tape.proofs.scan.nth_entry.Goals as goal

pub returns-in_err-behind : goal.returns-in_err-behind
returns-in_err-behind c =
    rw c.from_residual.ensures (nth_none c.args.file.now c.loop.rest.now c.loop.counter c.args.i c.loop.invariant (omega arith) c.in_err-behind.ensures)

pub returns-in_err-bytes : goal.returns-in_err-bytes
returns-in_err-bytes c =
    rw c.from_residual-in_err-bytes.ensures (nth_none c.args.file.now c.loop.rest.now c.loop.counter c.args.i c.loop.invariant (omega arith) c.in_err-bytes.ensures)
