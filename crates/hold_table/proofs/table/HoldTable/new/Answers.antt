use Rattle.std.proofs.Common.{rules}
use Rattle.hold_table.proofs.table.HoldTable.new.Goals as goal

pub returns : goal.returns
returns c = record { drives = search rules; seats = search rules; count = search rules; idle = search rules; lone = search rules }
