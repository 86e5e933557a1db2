-- What an operator's order of a stack leaves.
use Rattle.std.proofs.Common.{◌≡◌, ℕ, ◌+◌, ◌-◌, ◌<◌, ◌≤◌, Bool, true, false, ◌||◌, IsTrue, List, [], ◌∷◌, ◌++◌, length, take, drop, map, flat_map, set, is_some, Option, Some, None, Result, Ok, Err, IfOk, IsSome, refl, ap, ◌∙◌, subst, arith, one-add, get_or, suc}
use Rattle.std.proofs.Math.Numerals.{suc-eq-add-one}
use Rattle.std.proofs.lemmas.Bool.Decides.{nat_tests}
use Rattle.drives.proofs.Names.{get_or-set_same, drop-map, drop-drop, take_all, length-drop, drop_more, list_any-append, list_all-map, find_at, find-append}
use Rattle.drives.proofs.Names.{sum_by-append, sum_by-cons, bytes_eq-Decides, ltb-true, sum_by, list_any, list_all}
use Rattle.drives.proofs.Names.{find, position_or_len, position_from, bytes_eq, TroubledTape, ReelSlot, Drive, drive_with}
use Rattle.drives.proofs.Names.{LibraryOf, library, drive_at, with_drive_at, slots_in, names_of, names_in, times, latched_on, ListLibrary}
use Rattle.drives.proofs.Names.{with_library, is_set_in, StacksCanFail, IsStocked, slot_named, without, picked, left, pile_of, arranged, is_repeated}
use Rattle.drives.proofs.Names.{are_distinct, is_among, is_piled, may_arrange, IsArranged, DriveFault}
use Rattle.std.proofs.lemmas.Map.Made.{sum_by-remove_key}
use Rattle.std.proofs.Math.Dec.{ltb}
use Rattle.std.proofs.lemmas.Iterator.Adapters.{position_from-zero}
use Rattle.std.proofs.lemmas.Option.{cond_some, slice_get-get_or, slice_get_past}
use Rattle.std.specs.Set.{remove_key}
use Rattle.drives.proofs.Shops.{bit, KeepsNames, times_kept, sum_by_slots, sum_by_with_drive}
use Rattle.drives.proofs.ListLibrary.{read_at, stocked_kept}

-- what is left where the first that passes is taken out by its place
pub removed_at : {X : Type 0} (p : X → Bool) (xs : List X) → remove_key p xs ≡ take (position_or_len p xs) xs ++ drop (suc (position_or_len p xs)) xs
removed_at p [] = refl
removed_at p (x ∷ xs) = grind (arith, removed_at p xs, one-add (position_or_len p xs))

-- the reels that are taken and those that are left are all
sum_picked : {X : Type 0} (f : ReelSlot X → ℕ) (names : List (List ℕ)) (slots : List (ReelSlot X)) → sum_by f (picked names slots) + sum_by f (left names slots) ≡ sum_by f slots
sum_picked f [] slots = omega arith
sum_picked f (name ∷ names) slots =
    grind (arith, sum_by-remove_key f (λ x. bytes_eq name x.name) slots, sum_by-cons f, sum_picked f names (without name slots))

pub sum_arranged : {X : Type 0} (f : ReelSlot X → ℕ) (s : LibraryOf X) (d : ℕ) (names : List (List ℕ)) → d < length s.drives → sum_by f (slots_in (arranged s d names)) ≡ sum_by f (slots_in s)
sum_arranged f s d names l =
    let r = drive_with (drive_at s d).name (picked names (pile_of s d)) in
    let sums = sum_by-append f s.bin (drive_at s d).stack in
    let moved = sum_by_with_drive f s d r l in
    omega (arith, sum_by_slots f (with_drive_at s d r), sum_by_slots f (arranged s d names), sum_picked f names (pile_of s d))

-- no name comes or goes
pub keeps_arranged : {X : Type 0} (s : LibraryOf X) (d : ℕ) (names : List (List ℕ)) → d < length s.drives → KeepsNames s (arranged s d names)
keeps_arranged s d names l f = sum_arranged (λ x. f x.name) s d names l

pub times_arranged : {X : Type 0} (s : LibraryOf X) (d : ℕ) (names : List (List ℕ)) → d < length s.drives → (name : List ℕ) → times name (names_in (arranged s d names)) ≡ times name (names_in s)
times_arranged s d names l = times_kept s (arranged s d names) (keeps_arranged s d names l)

-- a reel of that name is found among those that have one
found_among : {X : Type 0} (name : List ℕ) (slots : List (ReelSlot X)) → is_among slots name ≡ true → (y : ReelSlot X) × (slot_named name slots ≡ Some y) × (y.name ≡ name)
found_among name [] h = absurd cc
found_among name (x ∷ rest) h = grind (arith, found_among name rest, bytes_eq-Decides name x.name)

-- one of another name is still there
stays_among : {X : Type 0} (name other : List ℕ) (slots : List (ReelSlot X)) → bytes_eq name other ≡ false → is_among slots other ≡ true → is_among (without name slots) other ≡ true
stays_among name other [] n h = absurd cc
stays_among name other (x ∷ rest) n h =
    grind (arith, stays_among name other rest, bytes_eq-Decides name x.name, bytes_eq-Decides other x.name, bytes_eq-Decides name other)

all_stay : {X : Type 0} (name : List ℕ) (names : List (List ℕ)) (slots : List (ReelSlot X)) → list_any (bytes_eq name) names ≡ false → list_all (is_among slots) names ≡ true
    → list_all (is_among (without name slots)) names ≡ true
all_stay name [] slots n h = refl
all_stay name (other ∷ names) slots n h = grind (arith, stays_among name other slots, all_stay name names slots)

-- the names of the reels that are taken are those that were asked for
pub names_picked : {X : Type 0} (names : List (List ℕ)) (slots : List (ReelSlot X)) → are_distinct names ≡ true → list_all (is_among slots) names ≡ true → names_of (picked names slots) ≡ names
names_picked [] slots d h = refl
names_picked (name ∷ names) slots d h = grind (arith, found_among name slots, names_picked names (without name slots), all_stay name names slots)

piled : {X : Type 0} (s : LibraryOf X) (d : ℕ) (names : List (List ℕ)) → list_all (is_piled s d) names ≡ true
    → list_all (is_among (pile_of s d)) names ≡ true
piled s d [] h = refl
piled s d (name ∷ names) h = grind (arith, list_any-append (λ x. bytes_eq name x.name) s.bin (drive_at s d).stack, piled s d names)

pub order_arranged : {U : Type 0} (old new : ListLibrary) (d : ℕ) (names : List (List ℕ)) (result : Result U DriveFault) → d < length old.library.drives → IsTrue (may_arrange old.library d names)
    → IsArranged old d names result new → IfOk result (λ _. names_of (drive_at new.library d).stack ≡ names)
order_arranged old new d names (Ok x) l may h =
    let r = drive_with (drive_at old.library d).name (picked names (pile_of old.library d)) in
    grind (arith, get_or-set_same old.library.drives d r (drive_with [] []) l, names_picked names (pile_of old.library d), piled old.library d names)
order_arranged old new d names (Err fault) l may h = tt

-- a fact of what an arrangement left, which holds where nothing changed
pub after_arranged : {U : Type 0} (P : ListLibrary → Type 0) (old new : ListLibrary) (d : ℕ) (names : List (List ℕ)) (result : Result U DriveFault) → IsArranged old d names result new
    → P (with_library old (arranged old.library d names)) → P old → P new
after_arranged P old new d names (Ok x) h made same = rw h made
after_arranged P old new d names (Err why) h made same = let is : new ≡ old = grind arith in rw is same

pub still_able : (old : ListLibrary) (d : ℕ) (names : List (List ℕ)) → d < length old.library.drives → StacksCanFail (with_library old (arranged old.library d names)) → StacksCanFail old
still_able old d names l f = grind (arith, sum_arranged (λ x. bit (is_set_in x.reel)) old.library d names l)

-- on the way: what was picked and will be, and what will be left
pub record IsPicking {X : Type 0} (rest : List (List ℕ)) (now onto : List (ReelSlot X)) (names : List (List ℕ)) (slots before : List (ReelSlot X)) : Type 0 where
  pub all : onto ++ picked rest now ≡ before ++ picked names slots
  pub others : left rest now ≡ left names slots

-- a place where the test passes first
pub place_some : {X : Type 0} (p : X → Bool) (xs : List X) (at : ℕ) (d : X) → position_from p 0 xs ≡ Some at
    → (at < length xs) × (find p xs ≡ Some (get_or xs at d)) × (remove_key p xs ≡ take at xs ++ drop (at + 1) xs)
place_some p xs at d e =
    let n = position_or_len p xs in
    let is = cond_some (ltb n (length xs)) n at (position_from-zero p xs ∙ e) in
    let within = ltb-true n (length xs) is.0 in
    subst (λ k. (k < length xs) × (find p xs ≡ Some (get_or xs k d)) × (remove_key p xs ≡ take k xs ++ drop (k + 1) xs)) is.1
    (within, find_at p xs ∙ slice_get-get_or xs n d within, removed_at p xs ∙ ap (λ m. take n xs ++ drop m xs) (suc-eq-add-one n))

none_removed : {X : Type 0} (p : X → Bool) (xs : List X) → find p xs ≡ None → remove_key p xs ≡ xs
none_removed p [] h = refl
none_removed p (x ∷ xs) h = grind (arith, none_removed p xs)

-- no place where the test passes
pub place_none : {X : Type 0} (p : X → Bool) (xs : List X) → position_from p 0 xs ≡ None → (find p xs ≡ None) × (remove_key p xs ≡ xs)
place_none p xs e =
    let past : length xs ≤ position_or_len p xs = grind (arith, nat_tests, position_from-zero p xs) in
    grind (arith, find_at p xs, slice_get_past xs (position_or_len p xs) past, none_removed p xs)

-- a name among names that are lent
pub any_lent : {A : Type 0} (f : A → List ℕ) (name : List ℕ) (xs : List A) → list_any (bytes_eq name) (map f xs) ≡ list_any (λ x. bytes_eq name (f x)) xs
any_lent f name [] = refl
any_lent f name (x ∷ xs) = grind (arith, any_lent f name xs)

-- the names from a place on
pub names_from : {A : Type 0} (f : A → List ℕ) (xs : List A) (i : ℕ) (d : A) → i < length xs → map f (drop i xs) ≡ f (get_or xs i d) ∷ map f (drop (i + 1) xs)
names_from f xs i d l = ap (map f) (drop_more xs i d l)

-- the first name stands again, or not
pub repeated_is : {A : Type 0} (f : A → List ℕ) (xs : List A) (x : A) (rest : List A) (found : Bool) → xs ≡ x ∷ rest
    → found ≡ list_any (λ n. bytes_eq (f x) (f n)) rest → found ≡ is_repeated (map f xs)
repeated_is f xs x rest found e h = grind (arith, any_lent f (f x) rest)

pub none_repeated : {A : Type 0} (f : A → List ℕ) (xs : List A) → length xs ≡ 0 → false ≡ is_repeated (map f xs)
none_repeated f [] e = refl
none_repeated f (x ∷ xs) e = absurd (omega (arith, e))

tail_is : {A : Type 0} (names : List A) (i : ℕ) → take (length names - i) (drop i names) ≡ drop i names
tail_is names i = take_all (length names - i) (drop i names) (omega (arith, length-drop i names))

-- a name that stands again
pub differ_no : {A : Type 0} (f : A → List ℕ) (names : List A) (i : ℕ) (found : Bool) → found ≡ is_repeated (map f (take (length names - i) (drop i names))) → found ≡ true
    → are_distinct (map f (drop i names)) ≡ are_distinct (map f names) → false ≡ are_distinct (map f names)
differ_no f names i found h t same = grind (arith, tail_is names i)

-- a name that does not
pub differ_yet : {A : Type 0} (f : A → List ℕ) (names : List A) (i : ℕ) (found : Bool) → found ≡ is_repeated (map f (take (length names - i) (drop i names))) → found ≡ false
    → are_distinct (map f (drop i names)) ≡ are_distinct (map f names) → are_distinct (map f (drop (i + 1) names)) ≡ are_distinct (map f names)
differ_yet f names i found h t same = grind (arith, tail_is names i, drop-map f 1 (drop i names), drop-drop 1 i names)

-- what is found of the fields is so of the value
pub may_is : {A : Type 0} (s now : ListLibrary) (d : ℕ) (old : Drive TroubledTape) (f : A → List ℕ) (names : List A) (latched differ there : Bool) → s ≡ now → d < length now.library.drives
    → old ≡ get_or s.library.drives d old → latched ≡ is_some (latched_on old.stack) → latched ≡ false → differ ≡ are_distinct (map f names) → differ ≡ true
    → (bin stack : List (ReelSlot TroubledTape)) → bin ≡ s.library.bin → stack ≡ old.stack
    → there ≡ list_all (λ n. is_among bin (f n) || is_among stack (f n)) names → there ≡ may_arrange now.library d (map f names)
may_is s now d old f names latched differ there v l e a b m n bin stack g h u =
    grind (arith, read_at s.library d old, list_all-map (is_piled s.library d) f names)

-- what the fields keep where a stack was arranged
pub stocked_arranged : (s : LibraryOf TroubledTape) (d : ℕ) (old new : Drive TroubledTape) (names : List (List ℕ)) (onto bin : List (ReelSlot TroubledTape)) (reels room more : ℕ) → d < length s.drives
    → old ≡ get_or s.drives d old → new ≡ drive_with old.name onto → onto ≡ picked names (s.bin ++ old.stack) → bin ≡ left names (s.bin ++ old.stack) → room ≤ more → IsStocked s reels room
    → IsStocked (library (set s.drives d new) bin) reels more
stocked_arranged s d old new names onto bin reels room more l e n o b m h =
    rw (n, o, b, read_at s d old l e) (stocked_kept s (arranged s d names) reels room more (keeps_arranged s d names l) m h)

-- a reel that is found on the stacks or in the bin
pub found_or : {X : Type 0} (name : List ℕ) (above below : List (ReelSlot X)) (o : Option (ReelSlot X)) → o ≡ slot_named name above → IsSome o → o ≡ slot_named name (above ++ below)
found_or name above below o e h = grind (arith, find-append (λ x. bytes_eq name x.name) above below)

pub found_below : {X : Type 0} (name : List ℕ) (above below : List (ReelSlot X)) (o : Option (ReelSlot X)) → None ≡ slot_named name above → o ≡ slot_named name below → o ≡ slot_named name (above ++ below)
found_below name above below o e h = grind (arith, find-append (λ x. bytes_eq name x.name) above below)

-- the first stack from drive i on has the reel of that name, or the others have it
pub stacked_here : {X : Type 0} (name : List ℕ) (drives : List (Drive X)) (i : ℕ) (r : Drive X) (o : Option (ReelSlot X)) → i < length drives → r ≡ get_or drives i r → o ≡ slot_named name r.stack → IsSome o
    → slot_named name (flat_map (λ x. x.stack) (drop i drives)) ≡ slot_named name (flat_map (λ x. x.stack) drives) → o ≡ slot_named name (flat_map (λ x. x.stack) drives)
stacked_here name drives i r o l is found some same =
    let rest = flat_map (λ x. x.stack) (drop (i + 1) drives) in
    grind (arith, find-append (λ x. bytes_eq name x.name) r.stack rest, drop_more drives i r l)

pub stacked_on : {X : Type 0} (name : List ℕ) (drives : List (Drive X)) (i : ℕ) (r : Drive X) → i < length drives → r ≡ get_or drives i r → None ≡ slot_named name r.stack
    → slot_named name (flat_map (λ x. x.stack) (drop i drives)) ≡ slot_named name (flat_map (λ x. x.stack) drives)
    → slot_named name (flat_map (λ x. x.stack) (drop (i + 1) drives)) ≡ slot_named name (flat_map (λ x. x.stack) drives)
stacked_on name drives i r l is none same =
    let rest = flat_map (λ x. x.stack) (drop (i + 1) drives) in
    grind (arith, find-append (λ x. bytes_eq name x.name) r.stack rest, drop_more drives i r l)
