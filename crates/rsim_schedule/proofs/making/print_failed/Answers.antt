use Rattle.rsim_schedule.proofs.Words.{rules}
use Rattle.rsim_schedule.proofs.making.print_failed.Goals as goal

pub returns-in-Some : goal.returns-in-Some
returns-in-Some g c = search rules
