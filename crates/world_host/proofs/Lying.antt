-- What lies on the stacks and in the bin after a change of one stack.
use Rattle.std.proofs.Common.{◌≢◌, ℕ, zero, suc, List, [], ◌∷◌, ◌++◌, take, drop, slice_set, slice_index_or, IsSome, Option, Some, None, arith}
use Rattle.std.proofs.Common.{get_or-set_same, get_or-set_other, length-set}
use Rattle.std.specs.List.{cons_option}
use Rattle.std.proofs.lemmas.List.{get_or_past}
use Rattle.world_host.proofs.Names.{ReelSlot, Drive, drive_with, LibraryOf, library, drive_at, latched_on, with_first, at_first, to_bin, slot_named}
use Rattle.world_host.proofs.Names.{without, picked, left, pile_of, arranged, AreInSlots, AreStacksInSlots, AreAllInSlots, AreInSlotsExcept}

-- a stack whose reels are all in their slots has none latched
lying_first : {X : Type 0} (xs : List (ReelSlot X)) → AreInSlots xs → IsSome (latched_on xs) → ⊥
lying_first xs lie away = grind arith

-- a stack whose first reel is not away lies there whole
whole_stack : {X : Type 0} (xs : List (ReelSlot X)) → (IsSome (latched_on xs) → ⊥) → AreInSlots (drop 1 xs) → AreInSlots xs
whole_stack xs not below = grind arith

below_whole : {X : Type 0} (xs : List (ReelSlot X)) → AreInSlots xs → AreInSlots (drop 1 xs)
below_whole xs lie = grind arith

pub lie_append : {X : Type 0} (xs ys : List (ReelSlot X)) → AreInSlots xs → AreInSlots ys → AreInSlots (xs ++ ys)
lie_append [] ys a b = b
lie_append (x ∷ xs) ys a b = (a.0, lie_append xs ys a.1 b)

below_first : {X : Type 0} (reel : Option X) (xs : List (ReelSlot X)) → AreInSlots (drop 1 xs) → AreInSlots (drop 1 (with_first reel xs))
below_first reel xs lie = grind arith

first_laid : {X : Type 0} (r : X) (xs : List (ReelSlot X)) → IsSome (latched_on (with_first (Some r) xs)) → ⊥
first_laid r xs away = grind arith

binned : {X : Type 0} (r : X) (xs : List (ReelSlot X)) → AreInSlots (with_first (Some r) (take 1 xs))
binned r xs = grind arith

-- one drive was replaced, and the bin too
module _ {X : Type 0} (s : LibraryOf X) (d : ℕ) (r : Drive X) (bin : List (ReelSlot X)) (before after : ℕ → Type 0)
    (h : AreInSlotsExcept s before) where
  pub lie_put : AreInSlots bin → AreInSlots (drop 1 r.stack) → (IsSome (latched_on r.stack) → after d) → ((e : ℕ) → e ≢ d → before e → after e)
      → AreInSlotsExcept (library (slice_set s.drives d r) bin) after
  lie_put binned below here others =
      let nowhere : Drive X = drive_with [] [] in
      let same = get_or-set_same s.drives d r nowhere in
      let past = get_or_past (slice_set s.drives d r) d nowhere in
      let other = λ (e : ℕ) (apart : e ≢ d). get_or-set_other s.drives d e r nowhere apart in
      record {
        bin = binned;
        below = λ e. grind (arith, same, past, other e, length-set s.drives d r, h.below e);
        first = λ e away. grind (arith, same, past, other e, length-set s.drives d r, h.first e, others e);
      }

module _ {X : Type 0} (s : LibraryOf X) (d : ℕ) (before after : ℕ → Type 0) (h : AreInSlotsExcept s before)
    (others : (e : ℕ) → e ≢ d → before e → after e) where
  -- the first reel of the drive is laid back
  pub lie_laid : (r : X) → AreInSlotsExcept (at_first s d (Some r)) after
  lie_laid r =
      lie_put s d (drive_with (drive_at s d).name (with_first (Some r) (drive_at s d).stack)) s.bin before after h h.bin
      (below_first (Some r) (drive_at s d).stack (h.below d)) (λ away. absurd (first_laid r (drive_at s d).stack away)) others

  -- it is latched
  pub lie_latched : after d → AreInSlotsExcept (at_first s d None) after
  lie_latched here =
      lie_put s d (drive_with (drive_at s d).name (with_first None (drive_at s d).stack)) s.bin before after h h.bin
      (below_first None (drive_at s d).stack (h.below d)) (λ away. here) others

  -- it goes to the bin
  pub lie_moved : (r : X) → AreInSlotsExcept (to_bin s d r) after
  lie_moved r =
      lie_put s d (drive_with (drive_at s d).name (drop 1 (drive_at s d).stack)) (s.bin ++ with_first (Some r) (take 1 (drive_at s d).stack))
      before after h
      (lie_append s.bin (with_first (Some r) (take 1 (drive_at s d).stack)) h.bin (binned r (drive_at s d).stack))
      (below_whole (drop 1 (drive_at s d).stack) (h.below d)) (λ away. absurd (lying_first (drop 1 (drive_at s d).stack) (h.below d) away)) others

-- the reels of some names, and those of others
lie_named : {X : Type 0} (name : List ℕ) (xs ys : List (ReelSlot X)) → AreInSlots xs → AreInSlots ys
    → AreInSlots (cons_option (slot_named name xs) ys)
lie_named name [] ys lie more = more
lie_named name (x ∷ xs) ys lie more = grind (arith, lie_named name xs ys lie.1 more)

lie_without : {X : Type 0} (name : List ℕ) (xs : List (ReelSlot X)) → AreInSlots xs → AreInSlots (without name xs)
lie_without name [] lie = tt
lie_without name (x ∷ xs) lie = grind (arith, lie_without name xs lie.1)

lie_picked : {X : Type 0} (names : List (List ℕ)) (xs : List (ReelSlot X)) → AreInSlots xs → AreInSlots (picked names xs)
lie_picked [] xs lie = tt
lie_picked (name ∷ names) xs lie =
    lie_named name xs (picked names (without name xs)) lie (lie_picked names (without name xs) (lie_without name xs lie))

lie_left : {X : Type 0} (names : List (List ℕ)) (xs : List (ReelSlot X)) → AreInSlots xs → AreInSlots (left names xs)
lie_left [] xs lie = lie
lie_left (name ∷ names) xs lie = lie_left names (without name xs) (lie_without name xs lie)

-- an operator's order of the stack of a drive at which no reel is latched
pub lie_arranged : {X : Type 0} (s : LibraryOf X) (d : ℕ) (names : List (List ℕ)) (away : ℕ → Type 0) → AreInSlotsExcept s away → (away d → ⊥)
    → AreInSlotsExcept (arranged s d names) away
lie_arranged s d names away h free =
    let whole = whole_stack (drive_at s d).stack (λ first. free (h.first d first)) (h.below d) in
    let pile : AreInSlots (pile_of s d) = lie_append s.bin (drive_at s d).stack h.bin whole in
    let stack : AreInSlots (picked names (pile_of s d)) = lie_picked names (pile_of s d) pile in
    lie_put s d (drive_with (drive_at s d).name (picked names (pile_of s d))) (left names (pile_of s d)) away away h
    (lie_left names (pile_of s d) pile)
    (below_whole (picked names (pile_of s d)) stack) (λ first. absurd (lying_first (picked names (pile_of s d)) stack first)) (λ e apart is. is)

-- where all reels are in their slots, those of each stack are
at_stack : {X : Type 0} (drives : List (Drive X)) (d : ℕ) → AreStacksInSlots drives → AreInSlots (slice_index_or drives d (drive_with [] [])).stack
at_stack [] d lie = tt
at_stack (r ∷ drives) zero lie = lie.0
at_stack (r ∷ drives) (suc d) lie = at_stack drives d lie.1

-- and none is away, whichever drives may have their reel away
pub lie_first : {X : Type 0} (s : LibraryOf X) (away : ℕ → Type 0) → AreAllInSlots s → AreInSlotsExcept s away
lie_first s away lie = record {
  bin = lie.1;
  below = λ d. below_whole (drive_at s d).stack (at_stack s.drives d lie.0);
  first = λ d first. absurd (lying_first (drive_at s d).stack (at_stack s.drives d lie.0) first);
}
