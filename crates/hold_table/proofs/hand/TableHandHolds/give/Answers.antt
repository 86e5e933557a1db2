use Rattle.std.proofs.Common.{rules}
use Rattle.hold_table.proofs.hand.TableHandHolds.give.Goals as goal

pub returns-clause-step : goal.returns-clause-step
returns-clause-step c = search rules
