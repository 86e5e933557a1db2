use Rattle.std.proofs.Common.{◌≡◌, ◌⊎◌, ◌≤◌, ℕ, List, length, vec_len}
use Rattle.std.specs.Prelude.{All, Contains}
use Rattle.tape.specs.Failures.{Steps}
use Rattle.restore.specs.Chain.{IsAmong, IsChain}
use Rattle.restore.specs.Found.{IsFound}
use Rattle.restore.specs.declared.volume.FoundVolume.{FoundVolume}
use Rattle.restore.proofs.chain.chain_of.Given as goal

abbrev pub invariant-loop-volume : goal.invariant-loop-volume
invariant-loop-volume g l = record {
  room : 2 ≤ length l.room;
  same : Steps g.S.Shelf.holds l.fn.shelf l.shelf (λ old new. new ≡ old);
  chain : (reels : List (List ℕ)) → g.S.Shelf.holds l.fn.shelf reels → All (λ f. (blocks : List (List ℕ)) × IsFound reels f blocks) l.fn.found.items
      → IsChain reels l.chain.volumes.items l.chain.end
      × ((f : FoundVolume) → Contains l.initial.found.items f → Contains l.found.items f ⊎ IsAmong reels l.chain.volumes.items f.reel);
  left : (f : FoundVolume) → Contains l.found.items f → Contains l.initial.found.items f;
  from : All (Contains l.initial.found.items) l.chain.volumes.items;
}

abbrev pub decreases-loop-volume : goal.decreases-loop-volume
decreases-loop-volume g l = vec_len l.found
