use Rattle.std.proofs.Common.{◌-◌, ◌+◌, ◌++◌, ◌≡◌, ◌≤◌, ℕ, List, length, take, drop}
use Rattle.std.specs.Io.KnownBytes.{Appends}
use Rattle.std.specs.List.{concat}
use Rattle.rmt_wire.specs.declared.limits.TheConstants.{RECORD_LIMIT}
use Rattle.tape.specs.Failures.{Steps}
use Rattle.restore.specs.Written.{AreTheBlocks}
use Rattle.restore.proofs.write.write_volumes.Given as goal

abbrev pub invariant-loop-volume : goal.invariant-loop-volume
invariant-loop-volume g l = record {
  room : RECORD_LIMIT + 8 ≤ length l.room;
  same : Steps g.S.Shelf.holds l.fn.shelf l.shelf (λ old new. new ≡ old);
  written : (reels payload : List (List ℕ)) → g.S.Shelf.holds l.fn.shelf reels → AreTheBlocks reels l.volumes payload
      → (done : List (List ℕ)) × (rest : List (List ℕ)) × (payload ≡ done ++ rest) × AreTheBlocks reels (drop l.volume-index l.volumes) rest
      × Appends (g.W.Write.contents l.fn.out.inner) (g.W.Write.contents l.out.inner) (take l.fn.left (concat done))
      × (l.left ≡ l.fn.left - length (concat done));
}
