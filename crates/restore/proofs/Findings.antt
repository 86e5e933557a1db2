-- What was found in the bytes of a reel.
use Rattle.std.proofs.Common.{◌≡◌, ℕ, List, Some, None, sym, subst}
use Rattle.sha2.specs.Sha256.{sha256}
use Rattle.dump_run.specs.Label.{id_of}
use Rattle.catalog.specs.Verdict.{IsVerdict}
use Rattle.catalog.specs.declared.line.CatalogLine.{CatalogLine}
use Rattle.catalog.specs.declared.verdict.SumVerdict.{SumVerdict}
use Rattle.catalog.specs.declared.verdict.SumVerdict.TheVariants.{Equal}
use Rattle.restore.proofs.FoundMore.{same_label}
use Rattle.restore.proofs.Verdicts.{only_equal}
use Rattle.restore.proofs.Whole.{OneHolding}
use Rattle.restore.specs.Found.{IsByVerdict, IsFinding, IsFoundIn, IsNotTaken}
use Rattle.restore.specs.Restored.{PlainWanted, Fits, IsTaken}
use Rattle.restore.specs.declared.found.Finding.{Finding}
use Rattle.restore.specs.declared.found.Finding.TheVariants.{Nothing, Aside, Taken}
use Rattle.restore.specs.declared.volume.FoundVolume.{FoundVolume}

-- there is no whole volume
pub none_whole : (bytes : List ℕ) (wanted : PlainWanted) (number : ℕ) → IsFoundIn bytes number None → IsNotTaken bytes wanted
none_whole bytes wanted number none = λ label size blocks v fits taken. none label size blocks v

-- the volume is of another dump
pub of_another : OneHolding → (bytes : List ℕ) (wanted : PlainWanted) (number : ℕ) (f : FoundVolume) → IsFoundIn bytes number (Some f)
    → (Fits wanted (id_of f.label) → ⊥) → IsNotTaken bytes wanted
of_another one bytes wanted number f found other = λ label size blocks v fits taken.
    (let same = same_label one bytes label f.label size f.block_bytes blocks found.1.0 v found.1.1 in other (subst (λ l. Fits wanted (id_of l)) same fits))

-- there is no catalog
pub without_catalog : (bytes : List ℕ) (wanted : PlainWanted) (number : ℕ) (f : FoundVolume) → IsFoundIn bytes number (Some f) → Fits wanted (id_of f.label)
    → wanted.lines ≡ None → IsFinding bytes wanted number (Taken f)
without_catalog bytes wanted number f found fits none = (found, fits, subst (λ l. IsTaken l f.label bytes) (sym none) tt)

-- the catalog has a verdict on the volume
pub with_catalog : OneHolding → (bytes : List ℕ) (wanted : PlainWanted) (number : ℕ) (f : FoundVolume) (lines : List CatalogLine) (verdict : SumVerdict) (finding : Finding)
    → IsFoundIn bytes number (Some f) → Fits wanted (id_of f.label) → wanted.lines ≡ Some lines → IsVerdict lines f.label (sha256 bytes) verdict
    → IsByVerdict f verdict finding → IsFinding bytes wanted number finding
with_catalog one bytes wanted number f lines verdict (Taken g) found fits some is by =
    let equal = subst (IsVerdict lines f.label (sha256 bytes)) by.1 is in
    let taken = subst (λ l. IsTaken l f.label bytes) (sym some) equal in
    subst (λ (h : FoundVolume). IsFinding bytes wanted number (Taken h)) (sym by.0) (found, fits, taken)
with_catalog one bytes wanted number f lines verdict (Aside other) found fits some is by = λ label size blocks v fit taken.
    (let same = same_label one bytes label f.label size f.block_bytes blocks found.1.0 v found.1.1 in
    let known = subst (λ o. IsTaken o label bytes) some taken in
    by (only_equal lines f.label (sha256 bytes) verdict (subst (λ l. IsVerdict lines l (sha256 bytes) Equal) same known) is))
with_catalog one bytes wanted number f lines verdict Nothing found fits some is by = absurd by
