-- Lists read by `get_elem?`.
use Rattle.std.proofs.Common.{◌≡◌, ◌⊎◌, inl, inr, ⊎_elim, ℕ, zero, suc, ◌<◌, ◌≤◌, List, [], ◌∷◌, ◌++◌, map, length, replicate, get_or, sym, refl, ap, arith}
use Rattle.std.proofs.lemmas.List.{get_or_default}
use mathlib.Core.Option.{some, some-injective, some-ne-none}
use lib.ListN.{get_elem?}
use Rattle.atomic_table.proofs.Lists.{at_index}

module _ {A : Type 0} where
  -- what a list has at an index lies inside it, and is what `get_or` reads there
  pub reads : (l : List A) (k : ℕ) (a d : A) → get_elem? l k ≡ some a → (k < length l) × (get_or l k d ≡ a)
  reads [] k a d e = absurd (some-ne-none a (sym e))
  reads (x ∷ xs) zero a d e = (omega arith, some-injective x a e)
  reads (x ∷ xs) (suc k) a d e = let r = reads xs k a d e in let r0 = r.0 in (omega arith, r.1)

  pub there : (l : List A) (i : ℕ) (d : A) → i < length l → get_elem? l i ≡ some (get_or l i d)
  there l i d h = at_index l i (get_or l i d) h (get_or_default l i d (get_or l i d) h)

  pub at_snoc_where : (l : List A) (a b : A) (j : ℕ) → get_elem? (l ++ a ∷ []) j ≡ some b → (get_elem? l j ≡ some b) ⊎ ((j ≡ length l) × (a ≡ b))
  at_snoc_where [] a b zero e = inr (refl, some-injective a b e)
  at_snoc_where [] a b (suc j) e = absurd (some-ne-none b (sym e))
  at_snoc_where (x ∷ xs) a b zero e = inl e
  at_snoc_where (x ∷ xs) a b (suc j) e = ⊎_elim inl (λ t. let t0 = t.0 in inr (omega arith, t.1)) (at_snoc_where xs a b j e)

  -- A list with one more element `a`, after the elements of `l`: what it has at an index is `a`, or
  -- what the list had at this index or at the one before.
  pub at_insert : (l m : List A) (a b : A) (j : ℕ) → get_elem? (l ++ a ∷ m) j ≡ some b
      → ((j ≡ length l) × (a ≡ b)) ⊎ ((i : ℕ) × (get_elem? (l ++ m) i ≡ some b) × (((i < length l) × (j ≡ i)) ⊎ ((length l ≤ i) × (j ≡ suc i))))
  at_insert [] m a b zero e = inl (refl, some-injective a b e)
  at_insert [] m a b (suc j) e = inr (j, e, inr (omega arith, refl))
  at_insert (x ∷ xs) m a b zero e = inr (zero, e, inl (omega arith, refl))
  at_insert (x ∷ xs) m a b (suc j) e = ⊎_elim (λ t. inl (ap suc t.0, t.1))
      (λ t. inr (suc t.0, t.1, ⊎_elim (λ u. let u0 = u.0 in inl (omega arith, ap suc u.1)) (λ u. let u0 = u.0 in inr (omega arith, ap suc u.1)) t.2)) (at_insert xs m a b j e)

  -- what a list has at an index, it has at this index or at the next one, with one more element after its first
  pub at_second : (x a b : A) (m : List A) (j : ℕ) → get_elem? (x ∷ m) j ≡ some b
      → (i : ℕ) × (get_elem? (x ∷ a ∷ m) i ≡ some b) × (((j ≡ 0) × (i ≡ 0)) ⊎ ((1 ≤ j) × (i ≡ suc j)))
  at_second x a b m zero e = (zero, e, inl (refl, refl))
  at_second x a b m (suc j) e = (suc (suc j), e, inr (omega arith, refl))

  -- where a list of images has one, the list has what it is of
  pub at_image : {B : Type 0} (f : B → A) (l : List B) (k : ℕ) (a : A) → get_elem? (map f l) k ≡ some a → (b : B) × (get_elem? l k ≡ some b) × (f b ≡ a)
  at_image f [] k a e = absurd (some-ne-none a (sym e))
  at_image f (x ∷ xs) zero a e = (x, refl, some-injective (f x) a e)
  at_image f (x ∷ xs) (suc k) a e = at_image f xs k a e

  -- a list that is all one
  pub all_one : (n i : ℕ) (a : A) → get_or (replicate n a) i a ≡ a
  all_one zero i a = refl
  all_one (suc n) zero a = refl
  all_one (suc n) (suc i) a = all_one n i a
