use Rattle.rsim_schedule.proofs.Words.{true}
use Rattle.rsim_schedule.proofs.Played.{nothing_played, played_both, played_stop}
use Rattle.rsim_schedule.proofs.making.pump.Goals as goal

pub loop-init : goal.loop-init
loop-init g c = nothing_played g.W.Write.contents c.args.world.now c.args.out.now

pub returns-in_err-run_round : goal.returns-in_err-run_round
returns-in_err-run_round g c =
    played_stop g.W.Write.contents _ _ _ c.args.out.now c.loop.out c.run_round.new.out c.run_round.result c.from_residual.result
    c.in_err-run_round.field-0.0 c.loop.invariant c.run_round.ensures c.in_err-run_round.was c.from_residual.ensures.1

pub returns-then-not-branch : goal.returns-then-not-branch
returns-then-not-branch g c =
    played_both g.W.Write.contents _ _ _ c.args.out.now c.loop.out c.run_round.new.out true c.loop.invariant c.in_ok-run_round.ensures

pub loop-preserved : goal.loop-preserved
loop-preserved g c =
    played_both g.W.Write.contents _ _ _ c.args.out.now c.loop.out c.run_round.new.out true c.loop.invariant c.in_ok-run_round.ensures
