-- The names of months and weekdays, as they are looked up.
use Rattle.dumpdates.proofs.Terms.{◌≡◌, ◌⊎◌, ℕ, zero, suc, ◌+◌, ◌-◌, ◌<◌, Bool, true, cond, List, [], ◌∷◌, get_or, position, Some, None, bytes_eq, eqb, ltb, map, Bor, refl, sym, arith, list_any, position_or_len, eqb-true, lt-ltb, cond-true}
use Rattle.dumpdates.proofs.Terms.{nat_tests, agree_below_at, bytes_eq-Decides, IsWeekday, SpellsMonth, weekday_names, month_names, month_name, position-Some, list_any_at, Any-from_list_any, common_steps}

-- P holds, or it does not
abbrev pub Decided : Type 0 → Type 0
Decided P = P ⊎ (P → ⊥)

pub by_test : {P : Type 0} (b : Bool) → (b ≡ true → P) → (P → b ≡ true) → Decided P
by_test b to from = grind arith

-- the place of a month's name, and the month with this name
abbrev place : List ℕ → ℕ
place word = position_or_len (λ name. bytes_eq name word) month_names

pub month_of : List ℕ → ℕ
month_of word = place word + 1

-- each name is of one month
month_place : (n : ℕ) → n < 12 → place (get_or month_names n []) ≡ n
month_place n low = eqb-true _ _ (agree_below_at (λ k. eqb (place (get_or month_names k [])) k) (λ k. true) 12 n refl low)

pub one_month : (word : List ℕ) (m : ℕ) → SpellsMonth word m → m ≡ month_of word
unfolding month_name month_of
one_month word m ((low, high), is) = rw is (omega (arith, month_place (m - 1) (omega arith)))

-- a place before the end is not `None`
not_none : (k n : ℕ) → k < n → cond (ltb k n) (Some k) None ≡ None → ⊥
not_none k n low none = grind (arith, nat_tests)

-- a word that is none of the names
pub no_month : (word : List ℕ) → position (λ name. bytes_eq name word) month_names ≡ None → (m : ℕ) → SpellsMonth word m → ⊥
unfolding month_of
no_month word none m s = not_none (place word) 12 (omega (arith, one_month word m s, s.0)) none

-- and one that is the name at a place
pub is_month : (word : List ℕ) (at : ℕ) → position (λ name. bytes_eq name word) month_names ≡ Some at → SpellsMonth word (at + 1)
unfolding month_name
is_month word at found =
    let here = position-Some (λ name. bytes_eq name word) month_names at [] found in grind (arith, bytes_eq-Decides (get_or month_names at []) word)

pub month_or_not : (word : List ℕ) → Decided (SpellsMonth word (month_of word))
unfolding month_of
month_or_not word =
    by_test (ltb (place word) 12) (λ below. is_month word (place word) (cond-true _ _ _ below)) (λ s. lt-ltb _ _ (omega (arith, s.0)))

pub is_weekday : (word : List ℕ) → list_any (λ name. bytes_eq name word) weekday_names ≡ true → IsWeekday word
is_weekday word h =
    let some = Any-from_list_any (λ name. bytes_eq name word) weekday_names h in (some.0, some.2, grind (arith, common_steps, bytes_eq-Decides))

pub weekday_is : (word : List ℕ) → IsWeekday word → list_any (λ name. bytes_eq name word) weekday_names ≡ true
weekday_is word w =
    list_any_at (λ name. bytes_eq name word) weekday_names w.0 [] w.1 ((bytes_eq-Decides (get_or weekday_names w.0 []) word).1 (sym w.2))

-- the text at a place of a list of texts
pub now_at : (names : List (Bor (List ℕ))) (i : ℕ) (other : Bor (List ℕ))
    → (get_or names i other).now ≡ get_or (map (λ name. name.now) names) i other.now
now_at [] i other = refl
now_at (name ∷ names) zero other = refl
now_at (name ∷ names) (suc i) other = now_at names i other
