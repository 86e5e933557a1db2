-- The catalogs that follow the first one with a line of the dump.
use Rattle.std.proofs.Common.{◌≡◌, ℕ, ◌+◌, ◌-◌, ◌<◌, List, [], Some, None, get_or, take, drop, length, length-drop, sym, ap, subst, ◌∙◌, arith}
use Rattle.std.proofs.lemmas.List.{get_or-drop, take_all}
use Rattle.dump_run.specs.DumpId.{PlainId}
use Rattle.catalog.specs.declared.line.CatalogLine.{CatalogLine}
use Rattle.rdump_cat.specs.Knowing.{IsFirst, IsOnly, Knows, KnowsAt}

-- none of them has one
none_after : (catalogs : List (List CatalogLine)) (id : PlainId) (first k : ℕ) → IsFirst (drop (first + 1) catalogs) id None → first < k → KnowsAt catalogs id k → ⊥
none_after catalogs id first k none after knows =
    let at : first + 1 + (k - (first + 1)) ≡ k = omega (arith, after) in
    none (k - (first + 1)) (
      omega (arith, after, knows.0, length-drop (first + 1) catalogs),
      subst (λ c. Knows id c) (sym (get_or-drop (first + 1) catalogs (k - (first + 1)) [] ∙ ap (λ i. get_or catalogs i []) at)) knows.1,
    )

-- the first one is the only one
pub only_first : (catalogs : List (List CatalogLine)) (id : PlainId) (first : ℕ) → IsFirst catalogs id (Some first)
    → IsFirst (take (length catalogs - (first + 1)) (drop (first + 1) catalogs)) id None → IsOnly catalogs id (Some first)
only_first catalogs id first found none =
    let rest : take (length catalogs - (first + 1)) (drop (first + 1) catalogs) ≡ drop (first + 1) catalogs =
    take_all (length catalogs - (first + 1)) (drop (first + 1) catalogs) (omega (arith, length-drop (first + 1) catalogs)) in
    let after : IsFirst (drop (first + 1) catalogs) id None = subst (λ r. IsFirst r id None) rest none in
    (found.0, λ k knows. grind (arith, found.1 k, none_after catalogs id first k after, knows))
