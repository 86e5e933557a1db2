-- The second headline: what was dumped comes back. A shelf is a list of reels, each as the bytes of
-- a record file. A count is the record of a volume that the client wrote whole to a reel. Here `w`
-- is a world, `e` a run that was entered in dumpdates, `b` a run that was begun, `v` a volume of the
-- client's list, and `x` a count. Public contracts cite it.
use Rattle.std.specs.Prelude.{◌≡◌, ◌⊎◌, ℕ, ◌≤◌, List, length, take, Contains, None, Some}
use Rattle.std.specs.List.{concat}
use Rattle.tape.specs.Tape.{PlainEntry}
use Rattle.tape.specs.RecordFile.{images_of}
use Rattle.dump_run.specs.Run.{PlainRun, id_of_run}
use Rattle.dump_run.specs.declared.count.VolumeCount.{VolumeCount}
use Rattle.catalog.specs.declared.line.CatalogLine.{CatalogLine}
use Rattle.restore.specs.Dumped.{AreKnown}
use Rattle.restore.specs.Restored.{PlainWanted, Fits, IsRestored}
use Rattle.world_model.specs.World.{World, Begun, Count, Entered, numbered}
use Rattle.world_model.specs.History.{volume_of}
use Rattle.world_model.specs.Standing.{ReelHolds}
use Rattle.world_model.specs.Headline.{IsNotReopened}

-- The shelf has the record file of the reel of this name: the images of the entries that the reel
-- holds, and nothing else. The shelf can have other reels too, in any order.
abbrev pub IsOnShelf : World → List (List ℕ) → List ℕ → Type 0
IsOnShelf w reels name = (entries : List PlainEntry) × ReelHolds w.server name entries × Contains reels (images_of entries)

-- `x` is a count of the volume `v` of the run with this number, and its reel was not reopened. The
-- shelf has the record file of this reel.
pub record IsCountOnShelf (w : World) (run : ℕ) (v : VolumeCount) (reels : List (List ℕ)) (x : Count) : Type 0 where
  pub counted : Contains w.counts x
  pub run_is : x.run ≡ run
  pub volume_is : volume_of x ≡ v
  pub not_reopened : IsNotReopened w x
  pub on_shelf : IsOnShelf w reels x.reel

-- For each volume in the list that the client had when the run was entered, the shelf has the reel
-- of a count. A volume can have several counts, and it does not matter which of them it is.
abbrev pub AreOnShelf : World → Entered → List (List ℕ) → Type 0
AreOnShelf w e reels = (v : VolumeCount) → Contains e.listed v → (x : Count) × IsCountOnShelf w e.run v reels x

-- No catalog is given, or it has the sum of each of these volumes: a line that is in force has its
-- label and its sum.
abbrev pub IsKnown : PlainWanted → PlainRun → List (List ℕ) → List VolumeCount → Type 0
IsKnown wanted run payload counts =
    (wanted.lines ≡ None) ⊎ ((lines : List CatalogLine) × (wanted.lines ≡ Some lines) × AreKnown lines run payload counts)

-- Suppose that a shelf has a reel of each volume of a dump that was entered in dumpdates, that this
-- dump is wanted, and that the wanted length is at most that of its joined blocks. Suppose also that
-- no catalog is given, or one that has the sums of these volumes. Then whatever
-- `restore` can restore from the shelf is the beginning of these joined blocks that has this length.
abbrev pub DumpsComeBack : World → Type 0
DumpsComeBack w =
    (e : Entered) (b : Begun) (reels : List (List ℕ)) (wanted : PlainWanted) (bytes : List ℕ) → Contains w.entered e
    → numbered w.begun e.run ≡ Some b → AreOnShelf w e reels → IsKnown wanted b.run b.payload e.listed → Fits wanted (id_of_run b.run) → wanted.length ≤ length (concat b.payload)
    → IsRestored reels wanted bytes → bytes ≡ take wanted.length (concat b.payload)
