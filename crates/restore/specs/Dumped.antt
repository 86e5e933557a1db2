-- A dump whose counted volumes are on the reels of a shelf. Public contracts cite it.
use Rattle.std.specs.Prelude.{◌≡◌, ℕ, ◌<◌, List, [], All, Contains, Option, get_or, length}
use Rattle.tape.specs.RecordFile.{images_of}
use Rattle.dump_run.specs.Label.{IsLabel, label_of}
use Rattle.dump_run.specs.Run.{PlainRun}
use Rattle.dump_run.specs.declared.count.VolumeCount.{VolumeCount}
use Rattle.volume_check.specs.Volume.{volume_sum, whole_volume}
use Rattle.catalog.specs.Verdict.{IsVerdict}
use Rattle.catalog.specs.declared.line.CatalogLine.{CatalogLine}
use Rattle.catalog.specs.declared.verdict.SumVerdict.TheVariants.{Equal}
use Rattle.restore.specs.Restored.{IsTaken}

-- the blocks of a run: as many as it has, each of its size
pub record IsPayloadOf (run : PlainRun) (payload : List (List ℕ)) : Type 0 where
  pub many : length payload ≡ run.blocks
  pub sizes : All (λ block. length block ≡ run.block_bytes) payload

-- a reel has the whole counted volume, and nothing else
abbrev pub IsThere : List (List ℕ) → PlainRun → List (List ℕ) → VolumeCount → Type 0
IsThere reels run payload c =
    (number : ℕ) × (number < length reels) × (get_or reels number [] ≡ images_of (whole_volume run payload c.volume c.first c.count))

-- For each of these counts a reel has the counted volume. The number and the first block of the volume are within the limits of a label.
abbrev pub AreThere : List (List ℕ) → PlainRun → List (List ℕ) → List VolumeCount → Type 0
AreThere reels run payload counts = (c : VolumeCount) → Contains counts c → IsLabel (label_of run c.volume c.first) × IsThere reels run payload c

-- The counted volume is taken: with a catalog, a line in force has its label and its sum.
abbrev pub AreTaken : Option (List CatalogLine) → PlainRun → List (List ℕ) → List VolumeCount → Type 0
AreTaken lines run payload counts = (c : VolumeCount) → Contains counts c
    → IsTaken lines (label_of run c.volume c.first) (images_of (whole_volume run payload c.volume c.first c.count))

-- The catalog has the sum of each counted volume: the line that is in force has its label and its sum.
abbrev pub AreKnown : List CatalogLine → PlainRun → List (List ℕ) → List VolumeCount → Type 0
AreKnown lines run payload counts =
    (c : VolumeCount) → Contains counts c → IsVerdict lines (label_of run c.volume c.first) (volume_sum run payload c.volume c.first c.count) Equal
