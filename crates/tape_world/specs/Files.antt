-- The record files of reels that were counted, and their sums. Public contracts cite it.
use Rattle.std.specs.Prelude.{◌≡◌, ℕ, List, Contains, Some}
use Rattle.sha2.specs.Sha256.{sha256}
use Rattle.tape.specs.Tape.{PlainEntry}
use Rattle.tape.specs.RecordFile.{images_of}
use Rattle.dump_run.specs.Run.{PlainRun}
use Rattle.dump_run.specs.declared.count.VolumeCount.{VolumeCount}
use Rattle.world_model.specs.World.{World, Begun, Count, numbered}
use Rattle.world_model.specs.History.{volume_of}
use Rattle.world_model.specs.Standing.{ReelHolds}
use Rattle.world_model.specs.Headline.{IsNotReopened}

-- The bytes are the record file of the reel of this name: the images of the entries that the reel
-- holds, and nothing else.
abbrev pub IsFileOf : World → List ℕ → List ℕ → Type 0
IsFileOf w name bytes = (entries : List PlainEntry) × ReelHolds w.server name entries × (bytes ≡ images_of entries)

-- The sum is the SHA-256 of the record file of each reel on which this volume of the run was
-- counted and that was not reopened. The run was begun with these blocks.
abbrev pub IsSumOfFiles : World → PlainRun → List (List ℕ) → VolumeCount → List ℕ → Type 0
IsSumOfFiles w run payload count sum =
    (x : Count) (b : Begun) (bytes : List ℕ) → Contains w.counts x → volume_of x ≡ count → numbered w.begun x.run ≡ Some b
    → b.run ≡ run → b.payload ≡ payload → IsNotReopened w x → IsFileOf w x.reel bytes → sum ≡ sha256 bytes
