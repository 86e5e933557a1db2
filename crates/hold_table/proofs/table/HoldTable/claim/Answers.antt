use Rattle.hold_table.proofs.Names.{arith}
use Rattle.hold_table.proofs.Allowed.{takes}
use Rattle.hold_table.proofs.table.HoldTable.claim.Goals as goal

pub compare_exchange-requires : goal.compare_exchange-requires
compare_exchange-requires c = (grind arith, grind arith, takes _ _ _ _ _ _ (grind arith) c.seat.invariant.0 c.seat.invariant.1)
