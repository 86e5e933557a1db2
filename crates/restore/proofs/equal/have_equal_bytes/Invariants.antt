use Rattle.std.proofs.Common.{◌-◌, ◌≡◌, ◌<◌, ◌≤◌, ℕ, List, length, take}
use Rattle.tape.specs.Failures.{Steps}
use Rattle.restore.proofs.equal.have_equal_bytes.Given as goal

abbrev pub invariant-loop-at : goal.invariant-loop-at
invariant-loop-at g l = record {
  one : Steps g.M.Medium.holds l.fn.one l.one (λ old new. new ≡ old);
  two : Steps g.M.Medium.holds l.fn.two l.two (λ old new. new ≡ old);
  within : l.at ≤ l.len;
  some : 0 < length l.first;
  fits : length l.first ≤ length l.second;
  same : (bytes others : List ℕ) → g.M.Medium.holds l.fn.one bytes → g.M.Medium.holds l.fn.two others → take l.at others ≡ take l.at bytes;
}

abbrev pub decreases-loop-at : goal.decreases-loop-at
decreases-loop-at g l = l.len - l.at
