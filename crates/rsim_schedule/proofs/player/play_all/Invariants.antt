use Rattle.rsim_schedule.proofs.Words.{true, left_in, IsPlayed}
use Rattle.rsim_schedule.proofs.player.play_all.Given as goal

abbrev pub invariant-loop-text : goal.invariant-loop-text
invariant-loop-text g l = IsPlayed g.W.Write.contents l.fn.world l.fn.out true l.world l.out

abbrev pub decreases-loop-text : goal.decreases-loop-text
decreases-loop-text g l = left_in l.lines.rest
