-- A verdict that is `Equal` is the only one.
use Rattle.std.proofs.Common.{◌≡◌, inl, inr, ℕ, ◌+◌, take, drop, List, refl, subst, arith}
use Rattle.dump_run.specs.Label.{PlainLabel, id_of}
use Rattle.catalog.specs.Run.{Begins, HasNone, IsLast}
use Rattle.catalog.specs.Verdict.{HasSum, IsRunVerdict, IsVerdict, KnowsSum}
use Rattle.catalog.specs.declared.line.CatalogLine.{CatalogLine}
use Rattle.catalog.specs.declared.line.CatalogLine.TheVariants.{Volume}
use Rattle.catalog.specs.declared.verdict.SumVerdict.{SumVerdict}
use Rattle.catalog.specs.declared.verdict.SumVerdict.TheVariants.{Equal, Differs, Anew, Void, Unknown}

no_last : (Kind : CatalogLine → Type 0) (lines : List CatalogLine) (at : ℕ) → HasNone Kind lines → IsLast Kind lines at → (l : CatalogLine) → ⊥
no_last Kind lines at none last l = none at l last.within (last.is l)

one_last : (Kind : CatalogLine → Type 0) (lines : List CatalogLine) (at to : ℕ) (l : CatalogLine) → IsLast Kind lines at → IsLast Kind lines to → at ≡ to
one_last Kind lines at to l a b = grind (arith, a.last to l, b.last at l, a.within, b.within, a.is l, b.is l)

-- a line in force is one of the lines
sum_is_there : (after : List CatalogLine) (label : PlainLabel) (sum : List ℕ) → KnowsSum after label sum → HasSum after label sum
sum_is_there after label sum (v, (at, last, is), same, equal) = (at, Volume v, last.within, is (Volume v), (same, equal))

-- the verdict on the lines of one run
run_equal : (before after : List CatalogLine) (label : PlainLabel) (sum : List ℕ) (v : SumVerdict) → KnowsSum after label sum → IsRunVerdict before after label sum v
    → v ≡ Equal
run_equal before after label sum Equal knows is = refl
run_equal before after label sum Differs knows is = absurd (is.1 (sum_is_there after label sum knows))
run_equal before after label sum Anew knows is = absurd (is.0 knows)
run_equal before after label sum Void knows is = absurd (is.0 knows)
run_equal before after label sum Unknown knows is = absurd (is.1 (sum_is_there after label sum knows))

-- what is `Equal` has no other verdict
pub only_equal : (lines : List CatalogLine) (label : PlainLabel) (sum : List ℕ) (v : SumVerdict) → IsVerdict lines label sum Equal → IsVerdict lines label sum v
    → v ≡ Equal
only_equal lines label sum v (inl (none, is)) other = cc
only_equal lines label sum v (inr (at, last, knows)) (inl (none, is)) = absurd (no_last (Begins (id_of label)) lines at none last (Volume knows.0))
only_equal lines label sum v (inr (at, last, knows)) (inr (to, other, is)) =
    let same = one_last (Begins (id_of label)) lines to at (Volume knows.0) other last in
    run_equal (take at lines) (drop (at + 1) lines) label sum v knows (subst (λ n. IsRunVerdict (take n lines) (drop (n + 1) lines) label sum v) same is)
