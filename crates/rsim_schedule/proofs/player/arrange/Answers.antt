use Rattle.rsim_schedule.proofs.Played.{nothing_played}
use Rattle.rsim_schedule.proofs.player.arrange.Goals as goal

pub returns-in-Err : goal.returns-in-Err
returns-in-Err g c = nothing_played g.W.Write.contents c.args.world.now c.args.out.now
