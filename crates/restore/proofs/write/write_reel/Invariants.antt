use Rattle.std.proofs.Common.{◌-◌, ◌≡◌, ◌≤◌, ◌+◌, ℕ, List, length, take}
use Rattle.std.specs.List.{concat}
use Rattle.std.specs.Io.KnownBytes.{Appends}
use Rattle.rmt_wire.specs.declared.limits.TheConstants.{RECORD_LIMIT}
use Rattle.restore.specs.Volumes.{IsVolumeFile}
use Rattle.restore.proofs.write.write_reel.Given as goal

abbrev pub invariant-loop-number : goal.invariant-loop-number
invariant-loop-number g l = record {
  room : RECORD_LIMIT + 8 ≤ length l.room;
  written : (bytes : List ℕ) (blocks : List (List ℕ)) → g.M.Medium.holds l.fn.reel bytes → l.volume.blocks ≡ length blocks
      → IsVolumeFile bytes l.volume.label l.volume.block_bytes blocks → g.M.Medium.holds l.reel bytes
      × Appends (g.W.Write.contents l.fn.out.inner) (g.W.Write.contents l.out.inner) (take l.fn.left (concat (take l.number blocks)))
      × (l.left ≡ l.fn.left - length (concat (take l.number blocks)));
}
