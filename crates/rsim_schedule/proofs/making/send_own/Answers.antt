use Rattle.rsim_schedule.proofs.Played.{nothing_played}
use Rattle.rsim_schedule.proofs.making.send_own.Goals as goal

pub returns-then-ne : goal.returns-then-ne
returns-then-ne g c = nothing_played g.W.Write.contents c.args.world.now c.args.out.now
