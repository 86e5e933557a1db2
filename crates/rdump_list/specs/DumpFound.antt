-- The state of a dump in a catalog. Public contracts cite it.
use Rattle.std.specs.Prelude.{◌≡◌, ◌↔◌, ◌⊎◌, ℕ, ◌+◌, ◌<◌, ◌≤◌, List, [], All, Any, Contains, Option, Some, None}
use Rattle.dump_run.specs.DumpId.{PlainId}
use Rattle.catalog.specs.DumpLines.{PlainFinished}
use Rattle.catalog.specs.Run.{Begins, HasNone, IsFinishedBy, IsInForce, IsRunIn}
use Rattle.catalog.specs.SumLine.{PlainSumLine}
use Rattle.catalog.specs.declared.line.CatalogLine.{CatalogLine}
use Rattle.catalog.specs.declared.run.CatalogRun.{CatalogRun}
use Rattle.catalog.specs.declared.verdict.SumVerdict.TheVariants.{Equal}
use Rattle.rdump_list.specs.declared.judged_reel.JudgedReel.{JudgedReel}
use Rattle.rdump_list.specs.declared.missing.VolumeRange.{VolumeRange}
use Rattle.rdump_list.specs.declared.catalog_dump.CatalogDump.{CatalogDump}
use Rattle.rdump_list.specs.declared.catalog_dump.CatalogDump.TheVariants.{NotFinished, Finished}

-- The reel is that of the volume with this number: its sum is equal, and its label is that of the
-- volume's line in force.
abbrev pub IsVolumeOf : CatalogRun → ℕ → JudgedReel → Type 0
IsVolumeOf run number reel = (reel.verdict ≡ Equal)
    × ((v : PlainSumLine) × IsInForce run.after.now run.begun.now.id v × (v.label.volume ≡ number) × (v.label ≡ reel.label.now))

-- one of the reels is that of the volume with this number
abbrev pub HasVolume : CatalogRun → List JudgedReel → ℕ → Type 0
HasVolume run reels number = Any (IsVolumeOf run number) reels

-- the number is in the range
abbrev pub IsIn : ℕ → VolumeRange → Type 0
IsIn number range = (range.first ≤ number) × (number ≤ range.last)

-- a range of numbers from 1 to `volumes`, none of which is there
pub record IsGap (There : ℕ → Type 0) (volumes : ℕ) (range : VolumeRange) : Type 0 where
  pub begins : 1 ≤ range.first
  pub ends : range.last ≤ volumes
  pub filled : range.first ≤ range.last
  pub missing : (number : ℕ) → IsIn number range → There number → ⊥

-- The ranges have the numbers from 1 to `volumes` that are not there: each number is there, or is in
-- a range.
pub record AreMissing (There : ℕ → Type 0) (volumes : ℕ) (ranges : List VolumeRange) : Type 0 where
  pub gaps : All (IsGap There volumes) ranges
  pub rest : (number : ℕ) → 1 ≤ number → number ≤ volumes → There number ⊎ Any (IsIn number) ranges

-- What is there of the dump: it is not finished, or these of the volumes of the finished dump are
-- missing.
abbrev pub IsFoundOf : CatalogRun → List JudgedReel → CatalogDump → Type 0
IsFoundOf run reels NotFinished = (f : PlainFinished) → IsFinishedBy run.after.now run.begun.now.id f → ⊥
IsFoundOf run reels (Finished missing) =
    (f : PlainFinished) × IsFinishedBy run.after.now run.begun.now.id f × AreMissing (HasVolume run reels) f.volumes missing.items

-- what is there of the dump of a catalog, whose lines follow the last one with which it began
abbrev pub IsFoundIn : List CatalogLine → PlainId → List JudgedReel → Option CatalogDump → Type 0
IsFoundIn lines id reels None = HasNone (Begins id) lines
IsFoundIn lines id reels (Some found) = (run : CatalogRun) × IsRunIn lines id (Some run) × IsFoundOf run reels found

-- the dump is finished, and no volume is missing
abbrev pub IsAllThere : CatalogDump → Type 0
IsAllThere NotFinished = ⊥
IsAllThere (Finished missing) = missing.items ≡ []

-- These are the numbers of the volumes that are there. No public contract needs it.
abbrev pub AreNumbersOf : CatalogRun → List JudgedReel → List ℕ → Type 0
AreNumbersOf run reels numbers = (number : ℕ) → Contains numbers number ↔ HasVolume run reels number

-- The result is the least of the numbers from `from` to `volumes`, or one more than `volumes` if
-- there is none. No public contract needs it.
pub record IsLeastFrom (numbers : List ℕ) (from volumes next : ℕ) : Type 0 where
  pub reached : from ≤ next
  pub limit : next ≤ volumes + 1
  pub has : next ≤ volumes → Contains numbers next
  pub least : (number : ℕ) → from ≤ number → number < next → Contains numbers number → ⊥
