use Rattle.rsim_schedule.proofs.Played.{nothing_played}
use Rattle.rsim_schedule.proofs.player.say.Goals as goal

pub returns-in_default : goal.returns-in_default
returns-in_default g c = nothing_played g.W.Write.contents c.args.world.now c.args.out.now
