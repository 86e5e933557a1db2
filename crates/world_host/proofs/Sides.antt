-- Sides of connections at their places.
use Rattle.std.proofs.Common.{◌≡◌, ◌≢◌, ◌⊎◌, ℕ, ◌≤◌, ◌-◌, ◌+◌, List, [], ◌∷◌, ◌++◌, length, map, option_map, Option, Some, None, arith}
use Rattle.std.proofs.lemmas.List.{get_or_append_left, get_or-append_right, get_or-map, length-map}
use Rattle.world_host.proofs.Names.{length-append, set-set, get_or_past, get_or-set_same, get_or-set_other, length-set, map-set, set-get_or, side_at}
use Rattle.world_host.proofs.Names.{with_side_at}

module _ {S : Type 0} (sides : List (Option S)) (k : ℕ) where
  pub side_within : (s : S) → side_at sides k ≡ Some s → (1 ≤ k) × (k ≤ length sides)
  side_within s e = grind (arith, get_or_past sides (k - 1) None)

  pub side_other : (n : ℕ) (x : Option S) → n ≢ k → side_at (with_side_at sides k x) n ≡ side_at sides n
  side_other n x apart = grind (arith, get_or-set_other sides (k - 1) (n - 1) x None)

  pub side_same : (x : Option S) → 1 ≤ k → k ≤ length sides → side_at (with_side_at sides k x) k ≡ x
  side_same x first last = grind (arith, get_or-set_same sides (k - 1) x None)

  pub side_here : (s : S) (x : Option S) → side_at sides k ≡ Some s → side_at (with_side_at sides k x) k ≡ x
  side_here s x is = let within = side_within s is in side_same x within.0 within.1

  -- the side at a place, where that of connection k is replaced
  pub side_replaced : (n : ℕ) (s : S) (x o : Option S) → side_at sides k ≡ Some s → side_at (with_side_at sides k x) n ≡ o
      → ((n ≡ k) × (x ≡ o)) ⊎ ((n ≢ k) × (side_at sides n ≡ o))
  side_replaced n s x o is e = grind (arith, side_here s x is, side_other n x)

  -- a side stays at its place where that of connection k is replaced by another
  pub still_there : (n : ℕ) (s after : S) → side_at sides k ≡ Some s → (x : S) × (side_at sides n ≡ Some x)
      → (x : S) × (side_at (with_side_at sides k (Some after)) n ≡ Some x)
  still_there n s after is found = grind (arith, side_here s (Some after) is, side_other n (Some after))

  pub length_with : (x : Option S) → length (with_side_at sides k x) ≡ length sides
  length_with x = grind (arith, length-set sides (k - 1) x)

  pub with_own : with_side_at sides k (side_at sides k) ≡ sides
  with_own = grind (arith, set-get_or sides (k - 1) None)

  pub with_none : side_at sides k ≡ None → with_side_at sides k None ≡ sides
  with_none e = grind (arith, with_own)

  pub put_back : (x y : Option S) → with_side_at (with_side_at sides k x) k y ≡ with_side_at sides k y
  put_back x y = grind (arith, set-set sides (k - 1) x y)

  -- where one side more is added
  pub at_more : (s x : S) → side_at sides k ≡ Some x → side_at (sides ++ Some s ∷ []) k ≡ Some x
  at_more s x e = grind (arith, side_within x e, get_or_append_left sides (Some s ∷ []) None (k - 1))

  pub more_there : (s : S) → (x : S) × (side_at sides k ≡ Some x) → (x : S) × (side_at (sides ++ Some s ∷ []) k ≡ Some x)
  more_there s found = (found.0, at_more s found.0 found.1)

  pub at_push : (s x : S) → side_at (sides ++ Some s ∷ []) k ≡ Some x → (side_at sides k ≡ Some x) ⊎ ((k ≡ length sides + 1) × (s ≡ x))
  at_push s x e =
      let front = get_or_append_left sides (Some s ∷ []) None (k - 1) in
      let back = get_or-append_right sides (Some s ∷ []) (length sides) (k - 1) None in
      let past = get_or_past (sides ++ Some s ∷ []) (k - 1) None in
      grind (arith, front, back, past, length-append sides (Some s ∷ []))

pub map_with : {A B : Type 0} (f : A → B) (sides : List (Option A)) (k : ℕ) (x : Option A)
    → map (option_map f) (with_side_at sides k x) ≡ with_side_at (map (option_map f) sides) k (option_map f x)
map_with f sides k x = grind (arith, map-set (option_map f) sides (k - 1) x)

-- a side is seen at its connection's place
pub side_map : {A B : Type 0} (f : A → B) (sides : List (Option A)) (k : ℕ) → side_at (map (option_map f) sides) k ≡ option_map f (side_at sides k)
side_map f sides k =
    let here = get_or-map (option_map f) sides (k - 1) None None in
    let past = get_or_past sides (k - 1) None in
    let past_map = get_or_past (map (option_map f) sides) (k - 1) None in
    grind (arith, here, past, past_map, length-map sides (option_map f))
