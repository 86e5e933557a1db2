use Rattle.dump_client.proofs.Attempt.{arith}
use Rattle.dump_client.proofs.ledger.Ledger.start.Goals as goal

pub invariant_of-self-2 : goal.invariant_of-self-2
invariant_of-self-2 c = (grind arith, grind arith)
