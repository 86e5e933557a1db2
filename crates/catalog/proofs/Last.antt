-- The last line of a kind, and the line of a volume that is in force.
use Rattle.std.proofs.Common.{◌≡◌, ◌↔◌, ℕ, ◌+◌, ◌-◌, ◌<◌, inr, take, drop, length-drop, Bool, true, false, IsTrue, List, [], ◌∷◌, get_or, length, refl, sym, ap, subst, ◌∙◌, arith}
use Rattle.std.proofs.lemmas.Bool.{true≢false}
use Rattle.std.proofs.lemmas.List.{take_all}
use Rattle.dump_run.specs.DumpId.{PlainId}
use Rattle.dump_run.specs.Label.{PlainLabel, id_of}
use Rattle.catalog.specs.Run.{Begins, HasNone, IsInForce, IsLast, IsUpTo}
use Rattle.catalog.specs.SumLine.{PlainSumLine}
use Rattle.catalog.specs.Verdict.{IsRunVerdict, IsVerdict, KnowsLabel, KnowsSum}
use Rattle.catalog.specs.declared.line.CatalogLine.{CatalogLine}
use Rattle.catalog.specs.declared.line.CatalogLine.TheVariants.{Volume}
use Rattle.catalog.specs.declared.verdict.SumVerdict.{SumVerdict}

pub none_last : (Kind : CatalogLine → Type 0) (lines : List CatalogLine) (at : ℕ) → HasNone Kind lines → IsLast Kind lines at → ⊥
none_last Kind [] at none last = omega (arith, last.within)
none_last Kind (l ∷ ls) at none last = none at l last.within (last.is l)

one_last : (Kind : CatalogLine → Type 0) (lines : List CatalogLine) (at to : ℕ) (l : CatalogLine) → IsLast Kind lines at → IsLast Kind lines to → at ≡ to
one_last Kind lines at to l a b = grind (arith, a.last to l, b.last at l, a.within, b.within, a.is l, b.is l)

-- one line of a volume is in force
one_in_force : (after : List CatalogLine) (id : PlainId) (v w : PlainSumLine) → IsInForce after id v → IsInForce after id w → v.label.volume ≡ w.label.volume → v ≡ w
one_in_force after id v w first second same =
    let last = subst (λ n. IsLast (IsUpTo id n) after second.0) (sym same) second.1 in
    let at = one_last (IsUpTo id v.label.volume) after first.0 second.0 (Volume v) first.1 last in
    let both : Volume v ≡ Volume w = sym (first.2 (Volume v)) ∙ ap (λ k. get_or after k (Volume v)) at ∙ second.2 (Volume v) in cc

pub knows_label_by : (after : List CatalogLine) (label : PlainLabel) (id : PlainId) (n : ℕ) (v : PlainSumLine) (is : Bool) → id ≡ id_of label → n ≡ label.volume
    → IsInForce after id v → v.label.volume ≡ n → IsTrue is ↔ (v.label ≡ label) → IsTrue is ↔ KnowsLabel after label
knows_label_by after label id n v is id_is n_is found number told =
    let forced = subst (λ i. IsInForce after i v) id_is found in (
      λ yes. (v, forced, told.0 yes),
      λ knows.
          (let w = knows.0 in let same : v ≡ w = one_in_force after (id_of label) v w forced knows.1 (number ∙ n_is ∙ ap (λ l. l.volume) (sym knows.2)) in
          told.1 (ap (λ x. x.label) same ∙ knows.2)),
    )

pub knows_sum_by : (after : List CatalogLine) (label : PlainLabel) (sum : List ℕ) (id : PlainId) (n : ℕ) (v : PlainSumLine) (is : Bool) → id ≡ id_of label → n ≡ label.volume
    → IsInForce after id v → v.label.volume ≡ n → IsTrue is ↔ ((v.label ≡ label) × (v.sum ≡ sum)) → IsTrue is ↔ KnowsSum after label sum
knows_sum_by after label sum id n v is id_is n_is found number told =
    let forced = subst (λ i. IsInForce after i v) id_is found in (
      λ yes. (v, forced, (told.0 yes).0, (told.0 yes).1),
      λ knows.
          (let w = knows.0 in let same : v ≡ w = one_in_force after (id_of label) v w forced knows.1 (number ∙ n_is ∙ ap (λ l. l.volume) (sym knows.2)) in
          told.1 (ap (λ x. x.label) same ∙ knows.2, ap (λ x. x.sum) same ∙ knows.3)),
    )

pub no_label_by : (after : List CatalogLine) (label : PlainLabel) (id : PlainId) (n : ℕ) → id ≡ id_of label → n ≡ label.volume
    → ((v : PlainSumLine) → IsInForce after id v → v.label.volume ≡ n → ⊥) → IsTrue false ↔ KnowsLabel after label
no_label_by after label id n id_is n_is none = (
  λ yes. absurd (true≢false (sym yes)),
  λ knows.
      absurd (none knows.0 (subst (λ i. IsInForce after i knows.0) (sym id_is) knows.1) (ap (λ l. l.volume) knows.2 ∙ sym n_is)),
)

pub no_sum_by : (after : List CatalogLine) (label : PlainLabel) (sum : List ℕ) (id : PlainId) (n : ℕ) → id ≡ id_of label → n ≡ label.volume
    → ((v : PlainSumLine) → IsInForce after id v → v.label.volume ≡ n → ⊥) → IsTrue false ↔ KnowsSum after label sum
no_sum_by after label sum id n id_is n_is none = (
  λ yes. absurd (true≢false (sym yes)),
  λ knows.
      absurd (none knows.0 (subst (λ i. IsInForce after i knows.0) (sym id_is) knows.1) (ap (λ l. l.volume) knows.2 ∙ sym n_is)),
)

-- the verdict of the lines before and after the last one with which the dump began
pub verdict_by : (lines before after : List CatalogLine) (label : PlainLabel) (sum : List ℕ) (id : PlainId) (at : ℕ) (verdict : SumVerdict) → id ≡ id_of label
    → IsLast (Begins id) lines at → before ≡ take at lines → after ≡ take (length lines - (at + 1)) (drop (at + 1) lines)
    → IsRunVerdict before after label sum verdict → IsVerdict lines label sum verdict
verdict_by lines before after label sum id at verdict id_is last front back is =
    let rest : after ≡ drop (at + 1) lines = back ∙ take_all (length lines - (at + 1)) (drop (at + 1) lines) (omega (arith, length-drop (at + 1) lines)) in
    inr (at, subst (λ i. IsLast (Begins i) lines at) id_is last, subst (λ a. IsRunVerdict (take at lines) a label sum verdict) rest (subst (λ b. IsRunVerdict b after label sum verdict) front is))
