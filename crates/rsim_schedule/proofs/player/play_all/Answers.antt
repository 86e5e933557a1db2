use Rattle.rsim_schedule.proofs.Words.{true}
use Rattle.rsim_schedule.proofs.Played.{nothing_played, played_both, played_stop}
use Rattle.rsim_schedule.proofs.player.play_all.Goals as goal

pub loop-text-init : goal.loop-text-init
loop-text-init g c = nothing_played g.W.Write.contents c.args.world.now c.args.out.now

pub returns-in_err-play : goal.returns-in_err-play
returns-in_err-play g c =
    played_stop g.W.Write.contents _ _ _ c.args.out.now c.loop-text.out c.play.new.out c.play.result c.from_residual.result
    c.in_err-play.field-0.0 c.loop-text.invariant c.play.ensures c.in_err-play.was c.from_residual.ensures.1

pub loop-text-preserved : goal.loop-text-preserved
loop-text-preserved g c =
    played_both g.W.Write.contents _ _ _ c.args.out.now c.loop-text.out c.play.new.out true c.loop-text.invariant c.in_ok-play.ensures
