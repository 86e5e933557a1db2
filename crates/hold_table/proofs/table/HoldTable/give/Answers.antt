use Rattle.std.proofs.Common.{rules}
use Rattle.hold_table.proofs.table.HoldTable.give.Goals as goal

pub returns : goal.returns
returns c = record { step = search rules; rule = search rules }
