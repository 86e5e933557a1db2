use Rattle.rsim_schedule.proofs.Played.{nothing_played}
use Rattle.rsim_schedule.proofs.player.play.Goals as goal

pub returns-in-None : goal.returns-in-None
returns-in-None g c = nothing_played g.W.Write.contents c.args.world.now c.args.out.now

pub returns-in-Some-Drive : goal.returns-in-Some-Drive
returns-in-Some-Drive g c = nothing_played g.W.Write.contents c.args.world.now c.args.out.now
