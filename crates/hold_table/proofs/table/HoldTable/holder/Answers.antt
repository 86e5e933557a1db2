use Rattle.std.proofs.Common.{rules}
use Rattle.hold_table.proofs.table.HoldTable.holder.Goals as goal

pub returns : goal.returns
returns c = record { step = search rules; known = search rules; mine = search rules; rule = search rules; beside = search rules }
