use Rattle.hold_table.proofs.Allowed.{enters}
use Rattle.hold_table.proofs.table.HoldTable.gathered.Goals as goal

pub load_new_seat-company-requires : goal.load_new_seat-company-requires
load_new_seat-company-requires c = (c.self.invariant.1, enters _ _ _)
