use Rattle.dump_client.proofs.Attempt.{arith}
use Rattle.dump_client.proofs.ledger.Ledger.resumed.Goals as goal

pub invariant_of-result : goal.invariant_of-result
invariant_of-result c = (record { run = c.requires.run; counts = c.requires.volumes; stage = grind arith }, grind arith)
