use Rattle.rsim_schedule.proofs.Words.{true, IsPlayed}
use Rattle.rsim_schedule.proofs.making.pump.Given as goal

abbrev pub invariant-loop : goal.invariant-loop
invariant-loop g l = IsPlayed g.W.Write.contents l.fn.world l.fn.out true l.world l.out
