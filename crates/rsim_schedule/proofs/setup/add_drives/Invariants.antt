use Rattle.rsim_schedule.proofs.Words.{◌≤◌, length, map, AreGoodDrives, left_in, plain_line}
use Rattle.rsim_schedule.proofs.setup.add_drives.Given as goal

abbrev pub invariant-loop-text : goal.invariant-loop-text
invariant-loop-text l = 1 ≤ length l.drives.items → AreGoodDrives (map plain_line l.drives.items)

abbrev pub decreases-loop-text : goal.decreases-loop-text
decreases-loop-text l = left_in l.ahead.rest
