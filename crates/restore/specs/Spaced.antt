-- The volumes of one dump, each beginning at or after the end of the one before. No public contract needs it.
use Rattle.std.specs.Prelude.{◌≡◌, ℕ, ◌+◌, ◌-◌, ◌*◌, ◌≤◌, List, [], ◌∷◌, ◌++◌, All, Option, Result, MatchResult, get_or}
use Rattle.std.specs.Io.KnownBytes.{Appends}
use Rattle.std.specs.List.{concat}
use Rattle.rmt_wire.specs.ReplyWriter.{AppendsBeginning}
use Rattle.dump_run.specs.DumpId.{PlainId}
use Rattle.dump_run.specs.Label.{PlainLabel, id_of}
use Rattle.restore.specs.Chain.{IsAmong}
use Rattle.restore.specs.Found.{IsFound}
use Rattle.restore.specs.Partial.{gap_at, zeros}
use Rattle.restore.specs.Restored.{PlainWanted, Fits, IsTaken}
use Rattle.restore.specs.Volumes.{HasVolume, volume_label}
use Rattle.restore.specs.declared.gap.Gap.{Gap}
use Rattle.restore.specs.declared.volume.FoundVolume.{FoundVolume}

-- The volumes are of one dump, and have blocks of this size. The first has at least this number, and
-- begins at or after this block. Each further one has a greater number than the one before, and begins
-- at or after its end. If the size is 0, it begins there.
abbrev pub AreSpaced : List (List ℕ) → PlainId → ℕ → ℕ → ℕ → List FoundVolume → Type 0
AreSpaced reels id size volume first [] = Unit {0}
AreSpaced reels id size volume first (f ∷ fs) =
    (volume ≤ f.label.volume) × (first ≤ f.label.first) × (f.label ≡ volume_label id f.label.volume f.label.first) × (f.block_bytes ≡ size)
    × (size ≡ 0 → f.label.first ≡ first) × ((blocks : List (List ℕ)) × IsFound reels f blocks)
    × AreSpaced reels id size (f.label.volume + 1) (f.label.first + f.blocks) fs

-- the block at which the last of these volumes ends
abbrev pub end_after : ℕ → List FoundVolume → ℕ
end_after first [] = first
end_after first (f ∷ fs) = end_after (f.label.first + f.blocks) fs

-- the least number of a volume after these: one more than the last one's, or `volume` if there are
-- none
abbrev pub next_after : ℕ → List FoundVolume → ℕ
next_after volume [] = volume
next_after volume (f ∷ fs) = next_after (f.label.volume + 1) fs

-- the ranges of blocks between these volumes
abbrev pub gaps_in : ℕ → List FoundVolume → List Gap
gaps_in first [] = []
gaps_in first (f ∷ fs) = gap_at first (f.label.first - first) ++ gaps_in (f.label.first + f.blocks) fs

-- the volumes are those of one dump, from any volume on
abbrev pub AreOfOneDump : List (List ℕ) → ℕ → List FoundVolume → Type 0
AreOfOneDump reels size [] = Unit {0}
AreOfOneDump reels size (f ∷ fs) = AreSpaced reels (id_of f.label) size 1 0 (f ∷ fs)

-- The volumes are of one dump, with these gaps. The last one ends at this block, and the next one has
-- at least this number.
pub record IsSpacing (volumes : List FoundVolume) (gaps : List Gap) (end next : ℕ) : Type 0 where
  pub gaps_are : gaps ≡ gaps_in 0 volumes
  pub end_is : end ≡ end_after 0 volumes
  pub next_is : next ≡ next_after 1 volumes

-- the volumes are what is there of a dump that is wanted
pub record ArePresent (reels : List (List ℕ)) (wanted : PlainWanted) (size : ℕ) (volumes : List FoundVolume) : Type 0 where
  pub spaced : AreOfOneDump reels size volumes
  pub fits : All (λ f. Fits wanted (id_of f.label)) volumes
  pub taken : All (λ f. IsTaken wanted.lines f.label (get_or reels f.reel [])) volumes
  pub only : (number : ℕ) (label : PlainLabel) (size : ℕ) (blocks : List (List ℕ)) → HasVolume reels number label size blocks → Fits wanted (id_of label)
      → IsTaken wanted.lines label (get_or reels number []) → IsAmong reels volumes number

-- the bytes of a volume, with zero bytes for the blocks that are missing before it
abbrev pub part_bytes : ℕ → FoundVolume → List (List ℕ) → List ℕ
part_bytes first f blocks = zeros ((f.label.first - first) * f.block_bytes) ++ concat blocks

-- these are the bytes of the volumes, with zero bytes for the blocks that are missing before them
abbrev pub AreFilled : List (List ℕ) → ℕ → List FoundVolume → List ℕ → Type 0
AreFilled reels first [] bytes = bytes ≡ []
AreFilled reels first (f ∷ fs) bytes =
    (blocks : List (List ℕ)) × (rest : List ℕ) × (bytes ≡ part_bytes first f blocks ++ rest) × IsFound reels f blocks
    × AreFilled reels (f.label.first + f.blocks) fs rest

-- All these bytes were written. After a failure a beginning of them was written.
abbrev pub AreAllWritten : {T E : Type 0} → Option (List ℕ) → Option (List ℕ) → List ℕ → Result T E → Type 0
AreAllWritten old new bytes result = MatchResult result (λ _. Appends old new bytes) (λ _. AppendsBeginning old new bytes)
