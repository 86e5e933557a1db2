use Rattle.dump_run.proofs.Words.{decimal, arith}
use Rattle.dump_run.proofs.FieldCut.{lacks_decimal, one_after}
use Rattle.dump_run.proofs.checkpoint.field.number_field.Goals as goal

pub returns-in_err-text : goal.returns-in_err-text
returns-in_err-text c =
    rw c.from_residual.ensures
    (λ n more within is. c.in_err-text.ensures (decimal n) more (lacks_decimal 10 n (omega arith) (omega (arith, within.1, c.requires))) is)

pub returns-in_err-n : goal.returns-in_err-n
returns-in_err-n c =
    rw c.from_residual-in_err-n.ensures
    (λ n more within is.
    c.in_err-n.ensures n within
    (one_after c.args.word.now c.args.bytes.now c.in_ok-text.text.now (decimal n) c.in_ok-text.more.now more c.in_ok-text.ensures.0
    (lacks_decimal 10 n (omega arith) (omega (arith, within.1, c.requires))) c.in_ok-text.ensures.1 is))
