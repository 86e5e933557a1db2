use Rattle.std.proofs.Common.{rules}
use Rattle.hold_table.proofs.hand.TableHandHolds.take.Goals as goal

pub returns : goal.returns
returns c = record { step = search rules; answer = search rules; known = search rules; own = search rules; same = search rules; rule = search rules; beside = search rules }
