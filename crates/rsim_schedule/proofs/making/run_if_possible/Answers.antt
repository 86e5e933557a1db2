use Rattle.rsim_schedule.proofs.Words.{Bool}
use Rattle.rsim_schedule.proofs.Played.{halt_whole}
use Rattle.rsim_schedule.proofs.making.run_if_possible.Goals as goal

pub returns-in-Ok : goal.returns-in-Ok
returns-in-Ok g c = c.in-Ok.ensures

pub returns-in-Err : goal.returns-in-Err
returns-in-Err g c = rw (halt_whole Bool Unit c.in-Err.halt) c.in-Err.ensures
