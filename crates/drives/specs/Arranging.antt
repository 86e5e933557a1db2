-- Finding reels by name, and rearranging a stack as an operator does. A drive's latched reel is the
-- first of its stack: it is in the drive until it is laid back or moved to the bin. Public
-- contracts cite it.
use Rattle.std.specs.Prelude.{◌≡◌, ℕ, Bool, true, false, not, ◌&&◌, ◌||◌, List, [], ◌∷◌, ◌++◌, slice_set, is_some, Option, Result, Ok, Err}
use Rattle.std.specs.List.{list_any, list_all, find, cons_option}
use Rattle.std.specs.Option.{option_and_then}
use Rattle.std.specs.Set.{remove_key}
use Rattle.std.specs.Str.{bytes_eq}
use Rattle.drives.specs.TapeLibrary.{ReelSlot, drive_with, LibraryOf, library, drive_at, latched_at}
use Rattle.drives.specs.ListLibrary.{ListLibrary, with_library}
use Rattle.drives.specs.declared.fault.DriveFault.{DriveFault}
use Rattle.drives.specs.declared.fault.DriveFault.TheVariants.{OutOfMemory}

-- the first reel slot with that name
abbrev pub slot_named : {X : Type 0} → List ℕ → List (ReelSlot X) → Option (ReelSlot X)
slot_named name slots = find (λ x. bytes_eq name x.name) slots

-- the reel with that name, or none while it is latched
abbrev pub reel_named : {X : Type 0} → List ℕ → List (ReelSlot X) → Option X
reel_named name slots = option_and_then (λ x. x.reel) (slot_named name slots)

-- the slots except the one with that name, in their order
abbrev pub without : {X : Type 0} → List ℕ → List (ReelSlot X) → List (ReelSlot X)
without name slots = remove_key (λ x. bytes_eq name x.name) slots

-- the slots with these names, in the order of the names
abbrev pub picked : {X : Type 0} → List (List ℕ) → List (ReelSlot X) → List (ReelSlot X)
picked [] slots = []
picked (name ∷ names) slots = cons_option (slot_named name slots) (picked names (without name slots))

-- the slots with other names, in their own order
abbrev pub left : {X : Type 0} → List (List ℕ) → List (ReelSlot X) → List (ReelSlot X)
left [] slots = slots
left (name ∷ names) slots = left names (without name slots)

-- the slots that may form the stack of drive d: those of the bin and those of its stack
abbrev pub pile_of : {X : Type 0} → LibraryOf X → ℕ → List (ReelSlot X)
pile_of s d = s.bin ++ (drive_at s d).stack

-- The library in which drive d has the reels with these names, in that order, on its stack. The bin
-- has the other reels of the bin and of the old stack.
abbrev pub arranged : {X : Type 0} → LibraryOf X → ℕ → List (List ℕ) → LibraryOf X
arranged s d names = library (slice_set s.drives d (drive_with (drive_at s d).name (picked names (pile_of s d)))) (left names (pile_of s d))

-- the first of these names occurs again
abbrev pub is_repeated : List (List ℕ) → Bool
is_repeated [] = false
is_repeated (name ∷ names) = list_any (bytes_eq name) names

-- the names are distinct
abbrev pub are_distinct : List (List ℕ) → Bool
are_distinct [] = true
are_distinct (name ∷ names) = not (list_any (bytes_eq name) names) && are_distinct names

-- one of these slots has that name
abbrev pub is_among : {X : Type 0} → List (ReelSlot X) → List ℕ → Bool
is_among slots name = list_any (λ x. bytes_eq name x.name) slots

-- a reel in the bin or on the stack of drive d has that name
abbrev pub is_piled : {X : Type 0} → LibraryOf X → ℕ → List ℕ → Bool
is_piled s d name = is_among s.bin name || is_among (drive_at s d).stack name

-- The stack of drive d may be arranged like this. No reel of it is latched, and the names are
-- distinct. Each is the name of a reel in the bin or on that stack.
abbrev pub may_arrange : {X : Type 0} → LibraryOf X → ℕ → List (List ℕ) → Bool
may_arrange s d names = (not (is_some (latched_at s d)) && are_distinct names) && list_all (is_piled s d) names

-- The stack of drive `d` was arranged: `arranged` gives its reels, in the order of `names`. This
-- fails only with OutOfMemory; then nothing is changed.
abbrev pub IsArranged : {U : Type 0} → ListLibrary → ℕ → List (List ℕ) → Result U DriveFault → ListLibrary → Type 0
IsArranged old d names (Ok x) new = new ≡ with_library old (arranged old.library d names)
IsArranged old d names (Err OutOfMemory) new = new ≡ old
IsArranged old d names (Err _) new = ⊥
