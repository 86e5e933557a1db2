-- Seats that come back, and what the words of a closed table tell where these hold no drive.
use Rattle.std.proofs.Common.{◌≡◌, ◌≢◌, ℕ, zero, suc, ◌<◌, Bool, true, false, cond, None, All, List, [], ◌∷◌, ◌++◌, length, get_or, sym, refl, subst, arith}
use Rattle.std.proofs.lemmas.List.Elements.{All-push}
use Rattle.std.proofs.lemmas.Option.{none-some}
use mathlib.Core.Option.{some, some-injective, some-ne-none}
use lib.ListN.{get_elem?}
use Rattle.drives.specs.Holding.{has, HoldsJust}
use Rattle.hold_table.specs.declared.table.TheConstants.{SEAT_LIMIT}
use Rattle.hold_table.specs.Closing.{IsClosing}
use Rattle.hold_table.specs.Seats.{TableSeat}

module _ {A : Type 0} where
  reads : (l : List A) (k : ℕ) (a : A) → get_elem? l k ≡ some a → (k < length l) × (get_or l k a ≡ a)
  reads [] k a e = absurd (some-ne-none a (sym e))
  reads (x ∷ xs) zero a e = (omega arith, some-injective x a e)
  reads (x ∷ xs) (suc k) a e = let r = reads xs k a e in let below = r.0 in (omega arith, r.1)

  there : (l : List A) (k : ℕ) (d : A) → k < length l → get_elem? l k ≡ some (get_or l k d)
  there [] k d below = absurd (omega arith)
  there (x ∷ xs) zero d below = refl
  there (x ∷ xs) (suc k) d below = there xs k d (omega arith)

-- one more came, if there was room
pub pushed : {A : Type 0} (P : A → Type 0) (xs ys : List A) (x : A) (ok : Bool) → ys ≡ cond ok (xs ++ x ∷ []) xs → All P xs → P x → All P ys
pushed P xs ys x true is all more = subst (All P) (sym is) (All-push P xs x all more)
pushed P xs ys x false is all more = subst (All P) (sym is) all

is_false : (b : Bool) → (b ≡ true → ⊥) → b ≡ false
is_false true never = absurd (never refl)
is_false false never = refl

module _ (words : List ℕ) (seats : List TableSeat) (closing : IsClosing words seats) (idle : All (λ s. HoldsJust s.view None) seats) where
  -- with all seats of the table back, no drive is held
  pub free : length seats ≡ SEAT_LIMIT → (d : ℕ) → get_or words d 0 ≡ 0
  free all d = closing.free d all (λ k x e.
      let r = reads seats k x e in let none : HoldsJust x.view None = subst (λ (s : TableSeat). HoldsJust s.view None) r.1 (idle k x r.0) in
      is_false (has x.view d) (λ holds. none-some d ((none d).0 holds)))

  -- no drive is held by a seat that is back
  pub back : (k : ℕ) (x : TableSeat) → k < length seats → (d : ℕ) → get_or words d 0 ≢ (get_or seats k x).view.number
  back k x below d same = none-some d (((idle k x below) d).0 ((closing.held k (get_or seats k x) d (there seats k x below)).0 same))
