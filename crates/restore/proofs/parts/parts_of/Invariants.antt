use Rattle.std.proofs.Common.{◌≡◌, ◌⊎◌, ◌≤◌, ℕ, List, length, vec_len}
use Rattle.std.specs.Prelude.{All, Contains}
use Rattle.tape.specs.Failures.{Steps}
use Rattle.restore.specs.Chain.{IsAmong}
use Rattle.restore.specs.Found.{IsFound}
use Rattle.restore.specs.Spaced.{AreOfOneDump, IsSpacing}
use Rattle.restore.specs.declared.volume.FoundVolume.{FoundVolume}
use Rattle.restore.proofs.parts.parts_of.Given as goal

abbrev pub invariant-loop-volume : goal.invariant-loop-volume
invariant-loop-volume g l = record {
  room : 2 ≤ length l.room;
  same : Steps g.S.Shelf.holds l.fn.shelf l.shelf (λ old new. new ≡ old);
  spaced : (reels : List (List ℕ)) → g.S.Shelf.holds l.fn.shelf reels → All (λ f. (blocks : List (List ℕ)) × IsFound reels f blocks) l.fn.found.items
      → AreOfOneDump reels l.parts.size l.parts.volumes.items
      × ((f : FoundVolume) → Contains l.initial.found.items f → Contains l.found.items f ⊎ IsAmong reels l.parts.volumes.items f.reel);
  spacing : IsSpacing l.parts.volumes.items l.parts.gaps.items l.parts.end l.parts.next;
  left : (f : FoundVolume) → Contains l.found.items f → Contains l.initial.found.items f;
  from : All (Contains l.initial.found.items) l.parts.volumes.items;
}

abbrev pub decreases-loop-volume : goal.decreases-loop-volume
decreases-loop-volume g l = vec_len l.found
