use Rattle.std.proofs.Common.{rules}
use Rattle.hold_table.proofs.hand.TableHandHolds.holder.Goals as goal

pub returns : goal.returns
returns c = record { step = search rules; known = search rules; mine = search rules; own = search rules; rule = search rules; beside = search rules }
