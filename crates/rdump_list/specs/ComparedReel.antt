-- A record file that is compared with a catalog. Public contracts cite it.
use Rattle.std.specs.Prelude.{◌≡◌, ℕ, List, Option, Some, None}
use Rattle.dump_run.specs.Label.{PlainLabel}
use Rattle.volume_check.specs.declared.contents.ReelContents.{ReelContents}
use Rattle.volume_check.specs.declared.holding.Holding.TheVariants as holdings
use Rattle.volume_check.specs.declared.holding.Volume.{Volume}
use Rattle.volume_check.specs.declared.holding.VolumeEnd.TheVariants.{OneMark}
use Rattle.sha2.specs.Sha256.{sha256}
use Rattle.catalog.specs.Verdict.{IsVerdict}
use Rattle.catalog.specs.declared.line.CatalogLine.{CatalogLine}
use Rattle.catalog.specs.declared.verdict.SumVerdict.{SumVerdict}

-- The contents are a whole volume with this label: one mark ends it, and no bytes follow the mark.
abbrev pub IsWholeVolume : ReelContents → PlainLabel → Type 0
IsWholeVolume contents label =
    (volume : Volume) × (contents.holding ≡ holdings.Volume volume) × (volume.label ≡ label) × (volume.end ≡ OneMark) × (contents.tail ≡ 0)

-- Without a verdict, the contents are no whole volume. With a verdict, they are one, and this is
-- the verdict of the catalog on the SHA-256 of all bytes of the file.
abbrev pub IsReelCompared : List CatalogLine → List ℕ → ReelContents → Option SumVerdict → Type 0
IsReelCompared lines bytes contents None = (label : PlainLabel) → IsWholeVolume contents label → ⊥
IsReelCompared lines bytes contents (Some verdict) =
    (label : PlainLabel) × IsWholeVolume contents label × IsVerdict lines label (sha256 bytes) verdict
