use Rattle.std.proofs.Common.{ℕ, ◌<◌, ◌≤◌, length, get_or}
use Rattle.dump_run.specs.declared.count.VolumeCount.{VolumeCount}
use Rattle.dump_files.specs.Counted.{HasCountLine}
use Rattle.dump_files.proofs.counted_line.covers.Given as goal

abbrev pub invariant-loop-at : goal.invariant-loop-at
invariant-loop-at l = (l.at ≤ length l.counts)
    × ((k : ℕ) (d : VolumeCount) → l.at ≤ k → k < length l.counts → HasCountLine l.catalog l.run (get_or l.counts k d))

abbrev pub decreases-loop-at : goal.decreases-loop-at
decreases-loop-at l = l.at
