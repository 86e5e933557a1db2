-- What a hasher holds: the entries that were added to it, or the bytes of a medium. Public contracts
-- cite it.
use Rattle.std.specs.Prelude.{◌≡◌, ℕ, ◌-◌, List, ◌++◌, length, take, drop, min}
use Rattle.tape.specs.Tape.{PlainEntry}
use Rattle.tape.specs.RecordFile.{images_of}
use Rattle.sha2.specs.Hashers.{Holds256}
use Rattle.sha2.specs.declared.Sha256.{Sha256}
use Rattle.volume_check.specs.declared.entry_hasher.EntryHasher.{EntryHasher}

-- The hasher holds the images of these entries, joined, and nothing else.
abbrev pub HoldsEntries : EntryHasher → List PlainEntry → Type 0
HoldsEntries hasher entries = Holds256 hasher.hasher (images_of entries)

-- The `count` bytes from offset `at` on were added to a hasher: as many as fit into `size` bytes of
-- room, or all if there are fewer.
pub record IsPieceHashed (bytes : List ℕ) (at size count : ℕ) (old new : Sha256) : Type 0 where
  pub count_is : count ≡ min size (length bytes - at)
  pub hashed : (before : List ℕ) → Holds256 old before → Holds256 new (before ++ take count (drop at bytes))
