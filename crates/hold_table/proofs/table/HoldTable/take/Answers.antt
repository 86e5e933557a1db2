use Rattle.std.proofs.Common.{rules}
use Rattle.hold_table.proofs.table.HoldTable.take.Goals as goal

pub returns-else-found-eq0 : goal.returns-else-found-eq0
returns-else-found-eq0 c = record { step = search rules; answer = search rules; known = search rules; rule = search rules; beside = search rules }
