use Rattle.std.proofs.Common.{◌-◌, ◌≡◌, ◌<◌, ◌≤◌, length}
use Rattle.std.specs.Io.KnownBytes.{Appends}
use Rattle.restore.specs.Partial.{zeros}
use Rattle.restore.proofs.fill.write_zeros.Given as goal

abbrev pub invariant-loop-left : goal.invariant-loop-left
invariant-loop-left g l = record {
  some : 0 < length l.room;
  zeroed : l.room ≡ zeros (length l.room);
  within : l.left ≤ l.count;
  written : Appends (g.W.Write.contents l.fn.out.inner) (g.W.Write.contents l.out.inner) (zeros (l.count - l.left));
}

abbrev pub decreases-loop-left : goal.decreases-loop-left
decreases-loop-left g l = l.left
