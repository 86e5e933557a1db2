-- The whole volumes that are found on the reels of a shelf. No public contract needs it.
use Rattle.std.specs.Prelude.{◌≡◌, ◌≢◌, ℕ, ◌<◌, List, All, Contains, Option, Some, None, [], get_or, length}
use Rattle.tape.specs.RecordFile.{SpellsReel}
use Rattle.tape.specs.Tape.{PlainEntry}
use Rattle.dump_run.specs.Label.{PlainLabel, id_of}
use Rattle.volume_check.specs.Contents.{IsContents}
use Rattle.volume_check.specs.declared.contents.ReelContents.{ReelContents}
use Rattle.catalog.specs.declared.verdict.SumVerdict.{SumVerdict}
use Rattle.catalog.specs.declared.verdict.SumVerdict.TheVariants.{Equal}
use Rattle.restore.specs.Restored.{PlainWanted, Fits, IsTaken}
use Rattle.restore.specs.Volumes.{HasVolume, IsVolumeFile}
use Rattle.restore.specs.declared.found.Finding.{Finding}
use Rattle.restore.specs.declared.found.Finding.TheVariants.{Nothing, Aside, Taken}
use Rattle.restore.specs.declared.volume.FoundVolume.{FoundVolume}

-- the reel has the volume that was found, with these blocks
abbrev pub IsFound : List (List ℕ) → FoundVolume → List (List ℕ) → Type 0
IsFound reels f blocks = HasVolume reels f.reel f.label f.block_bytes blocks × (f.blocks ≡ length blocks)

-- the check of these bytes found these contents
abbrev pub IsChecked : List ℕ → ReelContents → Type 0
IsChecked bytes c = (entries : List PlainEntry) → SpellsReel bytes entries → IsContents c bytes entries

-- these bytes of the reel with this number are the volume that was found, or no whole volume
abbrev pub IsFoundIn : List ℕ → ℕ → Option FoundVolume → Type 0
IsFoundIn bytes number (Some f) =
    (f.reel ≡ number) × ((blocks : List (List ℕ)) × IsVolumeFile bytes f.label f.block_bytes blocks × (f.blocks ≡ length blocks))
IsFoundIn bytes number None = (label : PlainLabel) (size : ℕ) (blocks : List (List ℕ)) → IsVolumeFile bytes label size blocks → ⊥

-- the bytes are no whole volume that is taken
abbrev pub IsNotTaken : List ℕ → PlainWanted → Type 0
IsNotTaken bytes wanted = (label : PlainLabel) (size : ℕ) (blocks : List (List ℕ)) → IsVolumeFile bytes label size blocks → Fits wanted (id_of label)
    → IsTaken wanted.lines label bytes → ⊥

-- what was found in these bytes of the reel with this number: a volume that is taken, or none
abbrev pub IsFinding : List ℕ → PlainWanted → ℕ → Finding → Type 0
IsFinding bytes wanted number (Taken f) = IsFoundIn bytes number (Some f) × Fits wanted (id_of f.label) × IsTaken wanted.lines f.label bytes
IsFinding bytes wanted number (Aside verdict) = IsNotTaken bytes wanted
IsFinding bytes wanted number Nothing = IsNotTaken bytes wanted

-- the volume is taken if it has this verdict
abbrev pub IsByVerdict : FoundVolume → SumVerdict → Finding → Type 0
IsByVerdict volume verdict (Taken f) = (f ≡ volume) × (verdict ≡ Equal)
IsByVerdict volume verdict (Aside other) = verdict ≢ Equal
IsByVerdict volume verdict Nothing = ⊥

-- a volume that was found is there, is of a dump that is wanted, and is taken
abbrev pub IsWantedVolume : List (List ℕ) → PlainWanted → FoundVolume → Type 0
IsWantedVolume reels wanted f =
    Fits wanted (id_of f.label) × IsTaken wanted.lines f.label (get_or reels f.reel []) × ((blocks : List (List ℕ)) × IsFound reels f blocks)

-- the reel of this number has the volume that was found, or none that is taken
abbrev pub IsFoundOn : List (List ℕ) → PlainWanted → ℕ → Option FoundVolume → Type 0
IsFoundOn reels wanted number (Some f) = (f.reel ≡ number) × IsWantedVolume reels wanted f
IsFoundOn reels wanted number None = (label : PlainLabel) (size : ℕ) (blocks : List (List ℕ)) → HasVolume reels number label size blocks
    → Fits wanted (id_of label) → IsTaken wanted.lines label (get_or reels number []) → ⊥

-- These are all whole volumes on the first `count` reels that are taken.
pub record AreFound (reels : List (List ℕ)) (wanted : PlainWanted) (count : ℕ) (found : List FoundVolume) : Type 0 where
  pub each : All (IsWantedVolume reels wanted) found
  pub every : (number : ℕ) (label : PlainLabel) (size : ℕ) (blocks : List (List ℕ)) → number < count → HasVolume reels number label size blocks
      → Fits wanted (id_of label) → IsTaken wanted.lines label (get_or reels number []) → (f : FoundVolume) × Contains found f × (f.reel ≡ number)
