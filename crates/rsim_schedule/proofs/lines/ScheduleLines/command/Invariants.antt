use Rattle.rsim_schedule.proofs.Words.{◌≤◌, left_in}
use Rattle.rsim_schedule.proofs.lines.ScheduleLines.command.Given as goal

abbrev pub invariant-loop-line : goal.invariant-loop-line
invariant-loop-line l = left_in l.self.rest ≤ left_in l.fn.self.rest

abbrev pub decreases-loop-line : goal.decreases-loop-line
decreases-loop-line l = left_in l.self.rest
