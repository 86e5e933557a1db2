use Rattle.rsim_schedule.proofs.Played.{nothing_played}
use Rattle.rsim_schedule.proofs.player.start_run.Goals as goal

pub returns-then-not-can_start : goal.returns-then-not-can_start
returns-then-not-can_start g c = nothing_played g.W.Write.contents c.args.world.now c.args.out.now

pub returns-in_default : goal.returns-in_default
returns-in_default g c = nothing_played g.W.Write.contents c.args.world.now c.args.out.now
