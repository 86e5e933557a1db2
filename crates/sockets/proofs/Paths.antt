-- No text is an address of both kinds.
use Rattle.std.proofs.Common.{◌≡◌, ◌==◌, ◌+◌, ◌≤◌, ℕ, Bool, true, false, cond, Option, Some, None, List, [], ◌∷◌, ◌++◌, codes, length, get_or, refl, sym, ap, inl, inr, ◌∙◌, subst, arith}
use Rattle.std.specs.List.{position_from}
use Rattle.std.proofs.lemmas.Iterator.Adapters.{position_from-zero}
use Rattle.std.proofs.lemmas.List.{append_cancel_left}
use Rattle.std.proofs.lemmas.Str.Parse.{digit_at}
use Rattle.sockets.proofs.Colon.{not_some}
use Rattle.sockets.specs.Address.{HasPort, HasNoColon, IsAddress, IsPath, IsPathOf, IsPort}

-- no byte is a colon, where the first byte has the place `i`
abbrev NoneFrom : ℕ → List ℕ → Type 0
NoneFrom i text = position_from (λ b. b == 58) i text ≡ None

-- a port does not begin with a slash
no_slash : (rest : List ℕ) → IsPort (47 ∷ rest) → ⊥
no_slash rest is = let digit = digit_at (47 ∷ rest) 0 is.0.0.1 (omega arith) in omega (arith, digit.0)

later_none : (found : Bool) (i : ℕ) (later : Option ℕ) → cond found (Some i) later ≡ None → later ≡ None
later_none true i later e = absurd (not_some i e)
later_none false i later e = e

begins_other : (i x : ℕ) (text : List ℕ) → NoneFrom i (x ∷ text) → 58 ≡ x → ⊥
begins_other i x text none e = not_some i (subst (λ y. NoneFrom i (y ∷ text)) (sym e) none)

-- the first colon of a text is one place
first_colon : (i : ℕ) (front front' rest rest' : List ℕ) → front ++ 58 ∷ rest ≡ front' ++ 58 ∷ rest' → NoneFrom i front → NoneFrom i front' → rest ≡ rest'
first_colon i [] [] rest rest' e none none' = cc
first_colon i [] (x ∷ front') rest rest' e none none' =
    let colon : 58 ≡ x = cc in
    absurd (begins_other i x front' none' colon)
first_colon i (x ∷ front) [] rest rest' e none none' =
    let colon : 58 ≡ x = cc in
    absurd (begins_other i x front none colon)
first_colon i (x ∷ front) (y ∷ front') rest rest' e none none' =
    let later : front ++ 58 ∷ rest ≡ front' ++ 58 ∷ rest' = cc in
    first_colon (i + 1) front front' rest rest' later (later_none (x == 58) i _ none) (later_none (y == 58) i _ none')

plain_or_path : (host port rest : List ℕ) → host ++ 58 ∷ port ≡ codes "unix" ++ 58 ∷ 47 ∷ rest → HasNoColon host → IsPort port → ⊥
plain_or_path host port rest e none is_port =
    let same : port ≡ 47 ∷ rest = first_colon 0 host (codes "unix") port (47 ∷ rest) e (sym (position_from-zero (λ b. b == 58) host) ∙ none.0) refl in
    no_slash rest (subst IsPort same is_port)

in_brackets : (inner port rest : List ℕ) → (codes "[" ++ (inner ++ codes "]")) ++ 58 ∷ port ≡ codes "unix" ++ 58 ∷ 47 ∷ rest → ⊥
in_brackets inner port rest e = omega (arith, ap (λ text. get_or text 0 0) e)

pub not_both : (text : List ℕ) → HasPort text → IsPath text → ⊥
not_both text (host, port, same, inl plain, is_port) (path, (whole, (rest, begins))) =
    plain_or_path host port rest (sym same ∙ whole ∙ ap (λ p. codes "unix:" ++ p) begins) plain is_port
not_both text (host, port, same, inr (inner, brackets), is_port) (path, (whole, (rest, begins))) =
    in_brackets inner port rest (ap (λ h. h ++ 58 ∷ port) (sym brackets) ∙ sym same ∙ whole ∙ ap (λ p. codes "unix:" ++ p) begins)

-- a text has one path
one_path : (text path other : List ℕ) → IsPathOf text path → IsPathOf text other → path ≡ other
one_path text path other is is' = append_cancel_left (codes "unix:") path other (sym is.0 ∙ is'.0)

-- the path of an address has at most 107 bytes
pub short_path : (text path : List ℕ) → IsPathOf text path → IsAddress text → length path ≤ 107
short_path text path is (inl port) = absurd (not_both text port (path, is))
short_path text path is (inr (other, is', short)) = rw (one_path text path other is is') short
