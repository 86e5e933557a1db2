use Rattle.dump_run.proofs.Words.{codes, count_text}
use Rattle.dump_run.proofs.FieldCut.{count_lacks, one_after}
use Rattle.dump_run.proofs.checkpoint.field.count_field.Goals as goal

pub returns-in_err-text : goal.returns-in_err-text
returns-in_err-text c = rw c.from_residual.ensures (λ n more few is. c.in_err-text.ensures (count_text n) more (count_lacks n few) is)

pub returns-in_err-count : goal.returns-in_err-count
returns-in_err-count c =
    let found = c.in_ok-text in
    rw c.from_residual-in_err-count.ensures (λ n more few is. c.in_err-count.ensures n few
    (one_after (codes "counted ") c.args.bytes.now found.text.now (count_text n) found.more.now more found.ensures.0 (count_lacks n few) found.ensures.1 is))
