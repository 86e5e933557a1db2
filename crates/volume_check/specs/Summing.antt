-- What the hashers of a volume hold while its blocks are sent. No public contract needs it.
use Rattle.std.specs.Prelude.{◌≡◌, ℕ, ◌-◌, ◌<◌, true, List, ◌∷◌}
use Rattle.tape.specs.Tape.PlainEntry.{Record}
use Rattle.volume_check.specs.Volume.{block_records}
use Rattle.volume_check.specs.Hashing.{HoldsEntries}
use Rattle.volume_check.specs.declared.volume_hasher.VolumeHasher.{VolumeHasher}

-- One hasher holds the label and all added blocks. If a block was added, the other holds the label
-- and all blocks but the last.
pub record AreBlocksHashed (h : VolumeHasher) (payload : List (List ℕ)) : Type 0 where
  pub all : HoldsEntries h.all (Record h.label ∷ block_records payload h.first h.count)
  pub but_last : 0 < h.count → HoldsEntries h.but_last (Record h.label ∷ block_records payload h.first (h.count - 1))

-- If the hash is known, the hashers hold blocks of this payload.
abbrev pub AreHashed : VolumeHasher → List (List ℕ) → Type 0
AreHashed h payload = h.is_known ≡ true → AreBlocksHashed h payload
