-- The volumes of one dump, each beginning where the one before it ends. No public contract needs it.
use Rattle.std.specs.Prelude.{◌≡◌, ℕ, ◌+◌, List, [], ◌∷◌, All, Contains, IfSome, get_or, length, sum_by}
use Rattle.dump_run.specs.DumpId.{PlainId}
use Rattle.dump_run.specs.Label.{AreLabelsOfOneDump, id_of}
use Rattle.restore.specs.Found.{IsFound}
use Rattle.restore.specs.Restored.{PlainWanted, Fits, IsLengthOf, IsTaken}
use Rattle.restore.specs.Volumes.{HasVolume, volume_label}
use Rattle.dump_run.specs.Label.{PlainLabel}
use Rattle.restore.specs.declared.volume.FoundVolume.{FoundVolume}

-- how many blocks these volumes have
abbrev pub block_count : List FoundVolume → ℕ
block_count volumes = sum_by (λ f. f.blocks) volumes

-- The volumes are of one dump, and have blocks of one size. The first has this number and begins at
-- this block. Each further one has the next number and begins where the one before it ends.
abbrev pub AreLinked : List (List ℕ) → PlainId → ℕ → ℕ → ℕ → List FoundVolume → Type 0
AreLinked reels id size volume first [] = Unit {0}
AreLinked reels id size volume first (f ∷ fs) =
    (f.label ≡ volume_label id volume first) × (f.block_bytes ≡ size) × ((blocks : List (List ℕ)) × IsFound reels f blocks)
    × AreLinked reels id size (volume + 1) (first + f.blocks) fs

-- The volumes are linked from volume 1 on, and end at this block.
abbrev pub IsChain : List (List ℕ) → List FoundVolume → ℕ → Type 0
IsChain reels [] end = end ≡ 0
IsChain reels (f ∷ fs) end = AreLinked reels (id_of f.label) f.block_bytes 1 0 (f ∷ fs) × (end ≡ block_count (f ∷ fs))

-- one of the volumes is on a reel that has the same bytes as this one
abbrev pub IsAmong : List (List ℕ) → List FoundVolume → ℕ → Type 0
IsAmong reels volumes reel = (f : FoundVolume) × Contains volumes f × (get_or reels f.reel [] ≡ get_or reels reel [])

-- the volumes are of one dump, and their blocks have one size
abbrev pub AreOfOneChain : FoundVolume → FoundVolume → Type 0
AreOfOneChain f g = AreLabelsOfOneDump f.label g.label × (f.block_bytes ≡ g.block_bytes)

-- the same of the first of these volumes, if there is one
abbrev pub AreAlike : List FoundVolume → FoundVolume → Type 0
AreAlike [] g = Unit {0}
AreAlike (f ∷ fs) g = AreOfOneChain f g

-- there is a volume, and a payload of this length ends in the last block
abbrev pub IsComplete : ℕ → ℕ → List FoundVolume → Type 0
IsComplete bytes end [] = ⊥
IsComplete bytes end (f ∷ fs) = IsLengthOf bytes f.block_bytes end

-- the volumes are those of a dump that is wanted, in order
pub record IsChosen (reels : List (List ℕ)) (wanted : PlainWanted) (volumes : List FoundVolume) : Type 0 where
  pub chain : IsChain reels volumes (block_count volumes)
  pub complete : IsComplete wanted.length (block_count volumes) volumes
  pub many : IfSome wanted.volumes (λ count. length volumes ≡ count)
  pub fits : All (λ f. Fits wanted (id_of f.label)) volumes
  pub taken : All (λ f. IsTaken wanted.lines f.label (get_or reels f.reel [])) volumes
  pub only : (number : ℕ) (label : PlainLabel) (size : ℕ) (blocks : List (List ℕ)) → HasVolume reels number label size blocks → Fits wanted (id_of label)
      → IsTaken wanted.lines label (get_or reels number []) → IsAmong reels volumes number

-- one of the volumes is on this reel
abbrev pub IsReelOf : List FoundVolume → ℕ → Type 0
IsReelOf volumes reel = (f : FoundVolume) × Contains volumes f × (f.reel ≡ reel)
