use Rattle.hold_table.proofs.Names.{arith}
use Rattle.hold_table.proofs.Allowed.{gives}
use Rattle.hold_table.proofs.table.HoldTable.clear.Goals as goal

pub store-requires : goal.store-requires
store-requires c = (grind arith, grind arith, gives _ _ _ _ _ (grind arith) c.seat.invariant.0 (grind arith))
