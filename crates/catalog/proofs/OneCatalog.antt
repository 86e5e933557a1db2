-- The text of lines is that of no others, and none of its lines is bad.
use Rattle.std.proofs.Common.{◌≡◌, ◌≢◌, ℕ, List, [], ◌∷◌, ◌++◌, All, refl, sym, ap, ◌∙◌, append_assoc, append-nil, arith}
use Rattle.std.proofs.lemmas.List.Concat.{flat_map-append}
use Rattle.std.proofs.lemmas.List.Elements.{All-head, All-tail, All-push}
use Rattle.catalog.specs.Line.{IsLine, line_text}
use Rattle.catalog.specs.Catalog.{SpellsCatalog, HasBadLine, catalog_text}
use Rattle.catalog.specs.declared.line.CatalogLine.{CatalogLine}
use Rattle.catalog.proofs.OneLine.{one_line, shorter}

-- more lines follow those that a text begins with
abbrev Begins : List CatalogLine → List CatalogLine → List ℕ → Type 0
Begins before lines rest = (more : List CatalogLine) × (lines ≡ before ++ more) × (rest ≡ catalog_text more) × All IsLine more

no_line : (l : CatalogLine) (more : List ℕ) → [] ≢ line_text l ++ more
no_line l more is = omega (arith, shorter l [] more is)

begun : (before lines : List CatalogLine) (rest : List ℕ) → All IsLine before → All IsLine lines → catalog_text lines ≡ catalog_text before ++ rest
    → Begins before lines rest
begun [] lines rest good its is = (lines, refl, sym is, its)
begun (b ∷ bs) [] rest good its is = absurd (no_line b (catalog_text bs ++ rest) (is ∙ append_assoc (line_text b) (catalog_text bs) rest))
begun (b ∷ bs) (l ∷ ls) rest good its is =
    let (same, behind) = one_line l b (catalog_text ls) (catalog_text bs ++ rest) (All-head IsLine l ls its) (All-head IsLine b bs good)
    (is ∙ append_assoc (line_text b) (catalog_text bs) rest) in
    let (more, lines_are, rest_is, others) = begun bs ls rest (All-tail IsLine b bs good) (All-tail IsLine l ls its) behind in
    (more, ap (λ x. x ∷ ls) same ∙ ap (λ xs. b ∷ xs) lines_are, rest_is, others)

ended : (a b more : List CatalogLine) → b ≡ a ++ more → [] ≡ catalog_text more → a ≡ b
ended a b [] is none = sym (is ∙ append-nil a)
ended a b (l ∷ ls) is none = absurd (no_line l (catalog_text ls) none)

pub one_list : (bytes : List ℕ) (a b : List CatalogLine) → SpellsCatalog bytes a → SpellsCatalog bytes b → a ≡ b
one_list bytes a b first second =
    let (more, lines_are, rest_is, good) = begun a b [] first.0 second.0 (sym second.1 ∙ first.1 ∙ sym (append-nil (catalog_text a))) in
    ended a b more lines_are rest_is

none_bad : (rest : List ℕ) (more : List CatalogLine) → rest ≢ [] → All IsLine more
    → ((l : CatalogLine) (others : List ℕ) → IsLine l → rest ≢ line_text l ++ others) → rest ≢ catalog_text more
none_bad rest [] filled good bad is = filled is
none_bad rest (l ∷ ls) filled good bad is = bad l (catalog_text ls) (All-head IsLine l ls good) is

pub no_bad_line : (lines : List CatalogLine) (n : ℕ) → All IsLine lines → HasBadLine (catalog_text lines) n → ⊥
no_bad_line lines n good bad =
    let (more, lines_are, rest_is, its) = begun bad.before lines bad.rest bad.good good bad.split in
    none_bad bad.rest more bad.filled its bad.bad rest_is

-- one more line was read
pub one_more : (lines : List CatalogLine) (l : CatalogLine) (bytes rest more : List ℕ) → All IsLine lines → bytes ≡ catalog_text lines ++ rest
    → IsLine l → rest ≡ line_text l ++ more → All IsLine (lines ++ l ∷ []) × (bytes ≡ catalog_text (lines ++ l ∷ []) ++ more)
one_more lines l bytes rest more good is its next = (
  All-push IsLine lines l good its,
  is ∙ rw (next, flat_map-append line_text lines (l ∷ []), append-nil (line_text l)) (sym (append_assoc (catalog_text lines) (line_text l) more)),
)
