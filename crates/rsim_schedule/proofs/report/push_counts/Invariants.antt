use Rattle.rsim_schedule.proofs.Words.{◌≡◌, ◌++◌, take, flat_map, count_line}
use Rattle.rsim_schedule.proofs.report.push_counts.Given as goal

abbrev pub invariant-loop-place : goal.invariant-loop-place
invariant-loop-place l = l.text.items ≡ l.fn.text.items ++ flat_map count_line (take l.place l.world.counts)
