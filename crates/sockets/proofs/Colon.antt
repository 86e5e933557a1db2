-- A text is an address in one way: its last colon is the one before the port.
use Rattle.std.proofs.Common.{◌≡◌, ℕ, true, false, suc, ◌+◌, ◌≤◌, List, [], ◌∷◌, ◌++◌, length, take, drop, Option, Some, None, MatchOption, Bor, refl, sym, ap, ◌∙◌, subst, arith}
use Rattle.std.specs.Option.{option_map}
use Rattle.std.specs.Str.Pattern.{RFindsChar}
use Rattle.std.proofs.lemmas.List.{take-append-drop}
use Rattle.std.proofs.lemmas.Str.Parse.{digit_at}
use Rattle.std.proofs.lemmas.Str.Pattern.{NoCharPasses-char, drop_at_char}
use Rattle.sockets.specs.Address.{HasPort, IsHost, IsPort, IsSplitAtColon, LacksColon}

pub not_false : false ≡ true → ⊥
not_false e = absurd cc

pub not_some : (n : ℕ) → Some n ≡ None → ⊥
not_some n e = absurd cc

-- what `rsplit_once` says of a colon
abbrev IsCutAtColon : List ℕ → Option (Bor (List ℕ) × Bor (List ℕ)) → Type 0
IsCutAtColon text r = MatchOption r (RFindsChar 58 text None) (λ x. (i : ℕ) × (j : ℕ) × RFindsChar 58 text (Some (i, j)) × (x.0.now ≡ take i text) × (x.1.now ≡ drop j text) × (i ≤ j) × (length x.0.now ≡ i) × (length x.1.now + j ≡ length text))

none_in : (text : List ℕ) → RFindsChar 58 text None → LacksColon text
none_in text finds i l = NoCharPasses-char 58 text i finds (omega arith) l

pub cut_parts : (text : List ℕ) (r : Option (Bor (List ℕ) × Bor (List ℕ))) → IsCutAtColon text r → IsSplitAtColon text (option_map (λ parts. (parts.0.now, parts.1.now)) r)
cut_parts text None cut = none_in text cut
cut_parts text (Some x) (i, j, finds, first, second, ordered, long, short) =
    let whole : text ≡ take i text ++ 58 ∷ drop j text = sym (take-append-drop i text) ∙ ap (λ l. take i text ++ l) (drop_at_char 58 text i j finds.1 (omega arith)) in
    (rw (first, second) whole, rw second (none_in (drop j text) finds.0))

has_colon : (front rest : List ℕ) → LacksColon (front ++ 58 ∷ rest) → ⊥
has_colon [] rest lacks = lacks 0 (omega arith) refl
has_colon (x ∷ front) rest lacks = has_colon front rest (λ i l e. lacks (suc i) (omega (arith, l)) e)

one_cut : (front front' rest rest' : List ℕ) → front ++ 58 ∷ rest ≡ front' ++ 58 ∷ rest' → LacksColon rest → LacksColon rest' → (front ≡ front') × (rest ≡ rest')
one_cut [] [] rest rest' e l l' = (refl, cc)
one_cut [] (x ∷ front') rest rest' e l l' =
    let inside : rest ≡ front' ++ 58 ∷ rest' = cc in
    absurd (has_colon front' rest' (subst (λ t. LacksColon t) inside l))
one_cut (x ∷ front) [] rest rest' e l l' =
    let inside : front ++ 58 ∷ rest ≡ rest' = cc in
    absurd (has_colon front rest (subst (λ t. LacksColon t) (sym inside) l'))
one_cut (x ∷ front) (y ∷ front') rest rest' e l l' =
    let first : x ≡ y = cc in
    let later : front ++ 58 ∷ rest ≡ front' ++ 58 ∷ rest' = cc in
    let same = one_cut front front' rest rest' later l l' in
    (cc, same.1)

port_lacks : (port : List ℕ) → IsPort port → LacksColon port
port_lacks port is i l e = let digit = digit_at port i is.0.0.1 l in omega (arith, digit.1, e)

-- a text without a colon is no address
pub no_port : (text : List ℕ) → LacksColon text → HasPort text → ⊥
no_port text lacks (host, port, same, is_host, is_port) = has_colon host port (subst (λ t. LacksColon t) same lacks)

-- the parts of an address are its host and its port
pub parts_of : (text front rest : List ℕ) → text ≡ front ++ 58 ∷ rest → LacksColon rest → HasPort text → IsHost front × IsPort rest
parts_of text front rest cut lacks (host, port, same, is_host, is_port) =
    let one = one_cut host front port rest (sym same ∙ cut) (port_lacks port is_port) lacks in
    (subst IsHost one.0 is_host, subst IsPort one.1 is_port)
