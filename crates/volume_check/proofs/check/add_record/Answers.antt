use Rattle.volume_check.proofs.Words.{run_as, no_bytes}
use Rattle.volume_check.proofs.check.add_record.Goals as goal

pub returns-then-is_empty : goal.returns-then-is_empty
returns-then-is_empty g c =
    run_as c.add_label.ensures (λ f. f) (λ f. f) no_bytes (λ x y held step. (step.0, rw c.if-length-eq-LABEL_BYTES.true step.1))
