-- Whole volumes of dumps on reels. Public contracts cite it.
use Rattle.std.specs.Prelude.{◌≡◌, ℕ, ◌<◌, ◌≤◌, List, [], ◌∷◌, ◌++◌, All, get_or, length, map}
use Rattle.tape.specs.Tape.PlainEntry.{Record, Mark}
use Rattle.tape.specs.RecordFile.{images_of}
use Rattle.dump_run.specs.DumpId.{PlainId}
use Rattle.dump_run.specs.Label.{PlainLabel, IsLabel, plain_label, label_record}
use Rattle.dump_run.specs.Run.{IsBlockSize, blocks_limit}

-- the label of a dump's volume with this number, which begins at this block
abbrev pub volume_label : PlainId → ℕ → ℕ → PlainLabel
volume_label id volume first = plain_label id.name id.level id.date id.since volume first

-- the record file of a whole volume: its label, one record for each block, and one mark
abbrev pub volume_file : PlainLabel → List (List ℕ) → List ℕ
volume_file label blocks = images_of (Record (label_record label) ∷ (map Record blocks ++ Mark ∷ []))

-- The blocks have this size. Without a block the size is 0.
abbrev pub AreBlocks : ℕ → List (List ℕ) → Type 0
AreBlocks size [] = size ≡ 0
AreBlocks size (block ∷ blocks) = IsBlockSize size × All (λ b. length b ≡ size) (block ∷ blocks)

-- The bytes are the record file of a whole volume with this label and these blocks.
pub record IsVolumeFile (bytes : List ℕ) (label : PlainLabel) (size : ℕ) (blocks : List (List ℕ)) : Type 0 where
  pub is_label : IsLabel label
  pub sizes : AreBlocks size blocks
  pub few : length blocks ≤ blocks_limit
  pub file : bytes ≡ volume_file label blocks

-- The reel of this number has such a volume.
abbrev pub HasVolume : List (List ℕ) → ℕ → PlainLabel → ℕ → List (List ℕ) → Type 0
HasVolume reels number label size blocks = (number < length reels) × IsVolumeFile (get_or reels number []) label size blocks
