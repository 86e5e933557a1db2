-- Members of lists by their numbers, and what becomes of them where one is changed or added.
use Rattle.world_model.proofs.Basics.{◌≡◌, ◌≢◌, ◌⊎◌, ℕ, zero, suc, ◌<◌, ◌≤◌, List, [], ◌∷◌, ◌++◌, length, map, Some, refl, ap, arith, slice_get, slice_set, length-set}
use Rattle.world_model.proofs.Terms.{numbered, with_numbered, changed}

-- what a list with one member set holds
pub set_is : {X : Type 0} (xs : List X) (i m : ℕ) (v y : X) → slice_get (slice_set xs i v) m ≡ Some y
    → ((m ≡ i) × (y ≡ v)) ⊎ (((m ≡ i) → ⊥) × (slice_get xs m ≡ Some y))
set_is (w ∷ xs) (suc i) (suc m) v y is = grind (arith, set_is xs i m v y is)
set_is xs i m v y is = grind arith

-- a member that was set, where there was one
pub set_here : {X : Type 0} (xs : List X) (i : ℕ) (x v : X) → slice_get xs i ≡ Some x → slice_get (slice_set xs i v) i ≡ Some v
set_here (w ∷ xs) (suc i) x v at = set_here xs i x v at
set_here xs i x v at = grind arith

pub set_other : {X : Type 0} (xs : List X) (i m : ℕ) (v : X) → ((m ≡ i) → ⊥) → slice_get (slice_set xs i v) m ≡ slice_get xs m
set_other (w ∷ xs) (suc i) (suc m) v other = set_other xs i m v (λ e. other (ap suc e))
set_other xs i m v other = grind arith

-- the same by numbers
pub with_is : {X : Type 0} (xs : List X) (k j : ℕ) (v y : X) → numbered (with_numbered xs k v) j ≡ Some y
    → ((j ≡ k) × (y ≡ v)) ⊎ (((j ≡ k) → ⊥) × (numbered xs j ≡ Some y))
with_is xs k j v y is = grind (arith, set_is)

pub with_here : {X : Type 0} (xs : List X) (k : ℕ) (x v : X) → numbered xs k ≡ Some x → numbered (with_numbered xs k v) k ≡ Some v
with_here xs k x v at = grind (arith, set_here)

pub with_other : {X : Type 0} (xs : List X) (k j : ℕ) (v : X) → ((j ≡ k) → ⊥) → numbered (with_numbered xs k v) j ≡ numbered xs j
with_other xs k j v other = grind (arith, set_other)

pub length_with : {X : Type 0} (xs : List X) (k : ℕ) (v : X) → length (with_numbered xs k v) ≡ length xs
length_with xs k v = grind (arith, length-set)

-- a member of a list of which one was changed
pub changed_is : {X : Type 0} (f : X → X) (xs : List X) (k j : ℕ) (y : X) → numbered (changed f xs k) j ≡ Some y
    → ((j ≡ k) × ((x : X) × (numbered xs k ≡ Some x) × (y ≡ f x))) ⊎ (((j ≡ k) → ⊥) × (numbered xs j ≡ Some y))
changed_is f xs k j y is = grind (arith, with_is)

-- a member that was there
pub changed_there : {X : Type 0} (f : X → X) (xs : List X) (k j : ℕ) (x : X) → numbered xs j ≡ Some x
    → ((j ≡ k) × (numbered (changed f xs k) j ≡ Some (f x))) ⊎ (numbered (changed f xs k) j ≡ Some x)
changed_there f xs k j x there = grind (arith, with_here, with_other)

pub length_changed : {X : Type 0} (f : X → X) (xs : List X) (k : ℕ) → length (changed f xs k) ≡ length xs
length_changed f xs k = grind (arith, length_with)

-- one member more
pub pushed_is : {X : Type 0} (xs : List X) (x : X) (k : ℕ) (y : X) → numbered (xs ++ x ∷ []) k ≡ Some y
    → (numbered xs k ≡ Some y) ⊎ ((k ≡ suc (length xs)) × (y ≡ x))
pushed_is (z ∷ xs) x (suc (suc m)) y is = grind (arith, pushed_is xs x (suc m) y is)
pushed_is xs x k y is = grind arith

-- what was there stays at its number
pub numbered_more : {X : Type 0} (xs more : List X) (k : ℕ) (y : X) → numbered xs k ≡ Some y → numbered (xs ++ more) k ≡ Some y
numbered_more (z ∷ xs) more (suc (suc m)) y is = numbered_more xs more (suc m) y is
numbered_more xs more k y is = grind arith

pub numbered_last : {X : Type 0} (xs : List X) (x : X) → numbered (xs ++ x ∷ []) (suc (length xs)) ≡ Some x
numbered_last [] x = refl
numbered_last (z ∷ xs) x = numbered_last xs x

-- of an empty list no number has a member
pub no_number : {X : Type 0} (k : ℕ) (x : X) → numbered {X = X} [] k ≡ Some x → ⊥
no_number k x is = grind arith

-- there is a member exactly at the numbers up to the length
pub numbered_within : {X : Type 0} (xs : List X) (k : ℕ) (y : X) → numbered xs k ≡ Some y → k ≤ length xs
numbered_within (z ∷ xs) (suc (suc m)) y is = let on = numbered_within xs (suc m) y is in omega (arith, on)
numbered_within xs k y is = grind arith

pub numbered_there : {X : Type 0} (xs : List X) (k : ℕ) → 1 ≤ k → k ≤ length xs → (y : X) × (numbered xs k ≡ Some y)
numbered_there (z ∷ xs) (suc zero) first within = (z, refl)
numbered_there (z ∷ xs) (suc (suc m)) first within = numbered_there xs (suc m) (omega arith) (omega (arith, within))
numbered_there xs k first within = absurd (grind arith)

pub numbered_first : {X : Type 0} (xs : List X) (k : ℕ) (y : X) → numbered xs k ≡ Some y → 1 ≤ k
numbered_first xs k y is = grind arith

-- one that is set twice
pub with_twice : {X : Type 0} (xs : List X) (k : ℕ) (x y : X) → with_numbered (with_numbered xs k x) k y ≡ with_numbered xs k y
with_twice (z ∷ xs) (suc (suc i)) x y = ap (λ l. z ∷ l) (with_twice xs (suc i) x y)
with_twice xs k x y = grind arith

pub less_or_more : (d e : ℕ) → d ≢ e → (d < e) ⊎ (e < d)
less_or_more d e differ = grind arith

-- of a list of which each was changed
pub map_at : {X : Type 0} (f : X → X) (xs : List X) (k : ℕ) (y : X) → numbered (map f xs) k ≡ Some y → (x : X) × (numbered xs k ≡ Some x) × (y ≡ f x)
map_at f (x ∷ xs) (suc (suc m)) y is = map_at f xs (suc m) y is
map_at f xs k y is = grind arith

pub at_map : {X : Type 0} (f : X → X) (xs : List X) (k : ℕ) (x : X) → numbered xs k ≡ Some x → numbered (map f xs) k ≡ Some (f x)
at_map f (y ∷ xs) (suc (suc m)) x is = at_map f xs (suc m) x is
at_map f xs k x is = grind arith
