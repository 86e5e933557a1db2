use Rattle.dump_client.proofs.Attempt.{inl, rules}
use Rattle.dump_client.proofs.ledger.Ledger.new.Goals as goal

pub invariant_of-result : goal.invariant_of-result
invariant_of-result c = (record { run = search rules; counts = rw c.new.ensures.items tt; stage = inl c.new.ensures.items }, tt)
