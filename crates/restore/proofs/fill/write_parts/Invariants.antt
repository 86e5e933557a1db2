use Rattle.std.proofs.Common.{◌-◌, ◌+◌, ◌++◌, ◌≡◌, ◌≤◌, ℕ, List, length, take, drop}
use Rattle.std.specs.Io.KnownBytes.{Appends}
use Rattle.rmt_wire.specs.declared.limits.TheConstants.{RECORD_LIMIT}
use Rattle.tape.specs.Failures.{Steps}
use Rattle.restore.specs.Spaced.{AreFilled}
use Rattle.restore.proofs.fill.write_parts.Given as goal

abbrev pub invariant-loop-volume : goal.invariant-loop-volume
invariant-loop-volume g l = record {
  room : RECORD_LIMIT + 8 ≤ length l.room;
  same : Steps g.S.Shelf.holds l.fn.shelf l.shelf (λ old new. new ≡ old);
  written : (reels : List (List ℕ)) (bytes : List ℕ) → g.S.Shelf.holds l.fn.shelf reels → AreFilled reels 0 l.volumes bytes
      → (done : List ℕ) × (rest : List ℕ) × (bytes ≡ done ++ rest) × AreFilled reels l.end (drop l.volume-index l.volumes) rest
      × Appends (g.W.Write.contents l.fn.out.inner) (g.W.Write.contents l.out.inner) (take l.fn.left done)
      × (l.left ≡ l.fn.left - length done);
}
