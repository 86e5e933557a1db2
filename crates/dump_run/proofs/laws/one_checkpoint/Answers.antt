use Rattle.dump_run.proofs.Ordering.{one_checkpoint, one_fault}
use Rattle.dump_run.proofs.laws.one_checkpoint.Goals as goal

pub returns-clause-run : goal.returns-clause-run
returns-clause-run c = λ bytes r s counts others a b. (one_checkpoint bytes r s counts others a b).0

pub returns-clause-counts : goal.returns-clause-counts
returns-clause-counts c = λ bytes r s counts others a b. (one_checkpoint bytes r s counts others a b).1

pub returns-clause-fault : goal.returns-clause-fault
returns-clause-fault c = one_fault
