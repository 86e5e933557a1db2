use Rattle.rsim_schedule.proofs.Words.{rules}
use Rattle.rsim_schedule.proofs.printing.print_halt.Goals as goal

pub returns-in-StreamFailed : goal.returns-in-StreamFailed
returns-in-StreamFailed g c = search rules

pub returns-in-BadLine : goal.returns-in-BadLine
returns-in-BadLine g c = search rules
