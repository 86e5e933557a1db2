-- Words at their places, and the drives that they say.
use Rattle.rmtd_args.proofs.Words.{◌≡◌, ◌≢◌, ℕ, ◌+◌, ◌<◌, true≢false, true, false, Bool, Bor, List, [], ◌∷◌, ◌++◌, length, take, map, sym, ap, ◌∙◌, subst, arith, get_or, All, AllPairs, list_any, map-map, PlainDrive, split_of}
use Rattle.std.specs.Str.{bytes_eq}
use Rattle.std.proofs.lemmas.List.{take_more, get_or-map, get_or-take, length-map, length-take, map-append}
use Rattle.std.proofs.lemmas.List.Folds.{Any-from_list_any, list_any_at}
use Rattle.std.proofs.lemmas.List.Quantifiers.{all_pairs_push}
use Rattle.std.proofs.lemmas.Slice.Eq.{bytes_eq-Decides}

-- the drives of the words
abbrev pub said : List (Bor (List ℕ)) → List PlainDrive
said xs = map split_of (map (λ s. s.now) xs)

pub length_said : (xs : List (Bor (List ℕ))) → length (said xs) ≡ length xs
length_said xs = length-map (map (λ (s : Bor (List ℕ)). s.now) xs) split_of ∙ length-map xs (λ (s : Bor (List ℕ)). s.now)

said_at : (xs : List (Bor (List ℕ))) (i : ℕ) (d : Bor (List ℕ)) (z : PlainDrive) → i < length xs → get_or (said xs) i z ≡ split_of (get_or xs i d).now
said_at xs i d z l =
    ap (λ ys. get_or ys i z) (map-map split_of (λ (s : Bor (List ℕ)). s.now) xs) ∙ get_or-map (λ (s : Bor (List ℕ)). split_of s.now) xs i d z l

-- what holds of all drives holds of the one at a place
pub each_at : (P : PlainDrive → Type 0) (xs : List (Bor (List ℕ))) (i : ℕ) (d : Bor (List ℕ)) → i < length xs → All P (said xs) → P (split_of (get_or xs i d).now)
each_at P xs i d l all = subst P (said_at xs i d (split_of d.now) l) (all i (split_of d.now) (omega (arith, l, length_said xs)))

-- no drive before the place has the device of the one at it
pub apart_yet : (xs : List (Bor (List ℕ))) (i : ℕ) (d : Bor (List ℕ)) (y : PlainDrive) (found : Bool) → i < length xs → y ≡ split_of (get_or xs i d).now
    → found ≡ list_any (λ w. bytes_eq (split_of w.now).device y.device) (take i xs) → found ≡ false
    → AllPairs (λ d e. d.device ≢ e.device) (said (take i xs)) → AllPairs (λ d e. d.device ≢ e.device) (said (take (i + 1) xs))
apart_yet xs i d y found l e h none before =
    let next : said (take i xs) ++ split_of (get_or xs i d).now ∷ [] ≡ said (take (i + 1) xs) =
    sym (ap said (take_more xs i d l) ∙ simp map-append) in
    subst (λ ys. AllPairs (λ d e. d.device ≢ e.device) ys) (ap (λ z. said (take i xs) ++ z ∷ []) e ∙ next)
    (all_pairs_push (λ d e. d.device ≢ e.device) (said (take i xs)) y before (λ k z m same.
    let within : k < length (take i xs) = omega (arith, m, length_said (take i xs)) in
    true≢false (sym (list_any_at (λ (w : Bor (List ℕ)). bytes_eq (split_of w.now).device y.device) (take i xs) k d within
    ((bytes_eq-Decides (split_of (get_or (take i xs) k d).now).device y.device).1 (ap (λ (w : PlainDrive). w.device) (sym (said_at (take i xs) k d z within)) ∙ same)))
    ∙ sym h ∙ none)))

-- a drive before the place has it
pub apart_no : (xs : List (Bor (List ℕ))) (i : ℕ) (d : Bor (List ℕ)) (y : PlainDrive) (found : Bool) → i < length xs → y ≡ split_of (get_or xs i d).now
    → found ≡ list_any (λ w. bytes_eq (split_of w.now).device y.device) (take i xs) → found ≡ true
    → AllPairs (λ d e. d.device ≢ e.device) (said xs) → ⊥
apart_no xs i d y found l e h some apart =
    let (k, z, m, there, same) = Any-from_list_any (λ (w : Bor (List ℕ)). bytes_eq (split_of w.now).device y.device) (take i xs) (sym h ∙ some) in
    let n = length-take i xs in
    let below : k < i = omega (arith, n, m) in
    let its = said_at xs k z (split_of z.now) (omega (arith, below, l)) ∙ ap (λ (s : Bor (List ℕ)). split_of s.now) (sym (get_or-take i xs k z below) ∙ there) in
    apart k i (split_of z.now) below (omega (arith, l, length_said xs))
    (ap (λ (w : PlainDrive). w.device) its ∙ (bytes_eq-Decides (split_of z.now).device y.device).0 same
    ∙ ap (λ (w : PlainDrive). w.device) (e ∙ sym (said_at xs i d (split_of z.now) l)))
