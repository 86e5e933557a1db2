-- An operator's order of a stack, and reels by their names, as the library that is seen has them.
use Rattle.std.proofs.Common.{arith, ◌≡◌, ℕ, List, [], ◌∷◌, map, Option, Result, MatchResult, refl}
use Rattle.drives.proofs.Names.{map-set, map-append, list_all, option_map, TroubledTape, DriveFault, ReelSlot, drive_with, drive_at, slots_in}
use Rattle.drives.proofs.Names.{ListLibrary, with_library, at_rest, rest_slot, rest_drive, library_of, slot_named, reel_named, without, picked, left}
use Rattle.drives.proofs.Names.{pile_of, arranged, is_among, is_piled, may_arrange, IsArranged}
use Rattle.drives.proofs.ListLibrary.{drive_at_rest, slots_in_rest}
use Rattle.drives.proofs.Elsewhere.{latched_rest}

-- a stack is told
pub stack_told : (s : ListLibrary) (d : ℕ) (stack : List (ReelSlot TroubledTape)) → stack ≡ (drive_at s.library d).stack → map rest_slot stack ≡ (drive_at (library_of s) d).stack
stack_told s d stack e = grind (arith, drive_at_rest s d)

-- the reel of a name
slot_named_rest : (name : List ℕ) (slots : List (ReelSlot TroubledTape)) → slot_named name (map rest_slot slots) ≡ option_map rest_slot (slot_named name slots)
slot_named_rest name [] = refl
slot_named_rest name (x ∷ slots) = grind (arith, slot_named_rest name slots)

without_rest : (name : List ℕ) (slots : List (ReelSlot TroubledTape)) → without name (map rest_slot slots) ≡ map rest_slot (without name slots)
without_rest name [] = refl
without_rest name (x ∷ slots) = grind (arith, without_rest name slots)

-- the reels that are taken, and those that are left
picked_rest : (names : List (List ℕ)) (slots : List (ReelSlot TroubledTape)) → picked names (map rest_slot slots) ≡ map rest_slot (picked names slots)
picked_rest [] slots = refl
picked_rest (name ∷ names) slots = grind (arith, slot_named_rest name slots, without_rest name slots, picked_rest names (without name slots))

left_rest : (names : List (List ℕ)) (slots : List (ReelSlot TroubledTape)) → left names (map rest_slot slots) ≡ map rest_slot (left names slots)
left_rest [] slots = refl
left_rest (name ∷ names) slots = grind (arith, without_rest name slots, left_rest names (without name slots))

pile_rest : (s : ListLibrary) (d : ℕ) → pile_of (library_of s) d ≡ map rest_slot (pile_of s.library d)
pile_rest s d = grind (arith, drive_at_rest s d, map-append rest_slot s.library.bin (drive_at s.library d).stack)

arranged_rest : (s : ListLibrary) (d : ℕ) (names : List (List ℕ)) → library_of (with_library s (arranged s.library d names)) ≡ arranged (library_of s) d names
arranged_rest s d names =
    let pile = pile_of s.library d in
    let drives = map-set rest_drive s.library.drives d (drive_with (drive_at s.library d).name (picked names pile)) in
    grind (arith, drives, picked_rest names pile, left_rest names pile, pile_rest s d, drive_at_rest s d)

-- what an arrangement left is told so
pub order_told : {U : Type 0} (old new : ListLibrary) (d : ℕ) (names : List (List ℕ)) (result : Result U DriveFault) → IsArranged old d names result new
    → MatchResult result (λ _. library_of new ≡ arranged (library_of old) d names) (λ _. library_of new ≡ library_of old)
order_told old new d names result h = grind (arith, arranged_rest old d names)

among_rest : (name : List ℕ) (slots : List (ReelSlot TroubledTape)) → is_among (map rest_slot slots) name ≡ is_among slots name
among_rest name [] = refl
among_rest name (x ∷ slots) = grind (arith, among_rest name slots)

piled_rest : (s : ListLibrary) (d : ℕ) (name : List ℕ) → is_piled (library_of s) d name ≡ is_piled s.library d name
piled_rest s d name = simp (drive_at_rest s d, among_rest)

all_piled_rest : (s : ListLibrary) (d : ℕ) (names : List (List ℕ)) → list_all (is_piled (library_of s) d) names ≡ list_all (is_piled s.library d) names
all_piled_rest s d [] = refl
all_piled_rest s d (name ∷ names) = grind (arith, piled_rest s d name, all_piled_rest s d names)

-- what may be asked is told
pub may_told : (s : ListLibrary) (d : ℕ) (names : List (List ℕ)) → may_arrange s.library d names ≡ may_arrange (library_of s) d names
may_told s d names = grind (arith, latched_rest s d, all_piled_rest s d names)

-- the reel of a name is told
pub named_told : (s : ListLibrary) (name : List ℕ) (found : Option TroubledTape) → found ≡ reel_named name (slots_in s.library)
    → option_map at_rest found ≡ reel_named name (slots_in (library_of s))
named_told s name found e = grind (arith, slot_named_rest name (slots_in s.library), slots_in_rest s)
