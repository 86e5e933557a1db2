use Rattle.hold_table.proofs.Names.{arith}
use Rattle.hold_table.proofs.Allowed.{looks}
use Rattle.hold_table.proofs.table.HoldTable.read.Goals as goal

pub load-requires : goal.load-requires
load-requires c = (grind arith, grind arith, looks _ _ _ _ _ (grind arith) c.seat.invariant.0)
