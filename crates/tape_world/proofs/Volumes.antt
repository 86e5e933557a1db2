-- What stands on a reel is what is told of it.
use Rattle.tape_world.proofs.Layers.{common_steps, ◌≡◌, ◌⊎◌, ℕ, zero, suc, ◌<◌, ◌≤◌, List, [], ◌∷◌, ◌++◌, Option, Some, None, refl, sym, ap, ◌∙◌, inl, inr, arith, slice_index_or, option_or, sum_by, sum_by-cons, same_Some, bytes_eq-Decides, PlainEntry, Tape, entries_of, KeptReel, ReelSlot, Drive, drive_with, TapeLibrary, drive_at, slots_in, EachReelOnce, reel_named, bit, named, times_named, ServerState, ServerConnection, PlainSession, World, side_of, first_name, IsFirstAway, online_drive_in, AreHeld, ReelLiesIn, ReelLiesOn, HasInDrive, ReelHolds, AreLaid, IsWorldKept, CountedReels, named_tape_in}
use Rattle.tape_world.proofs.Layers.{tape_online, first_tape_online, entries_on, flat_map, option_map}
use Rattle.world_model.proofs.LabelledNames.{stands_one}
use Rattle.tape_world.specs.Volumes.{TellsVolumes}
use Rattle.tape_world.proofs.Server.{at_place}

-- one of these has that name, and lies there so, or is away
abbrev HasSlot : List (ReelSlot KeptReel) → List ℕ → Option KeptReel → Type 0
HasSlot [] name o = ⊥
HasSlot (x ∷ xs) name o = ((x.name ≡ name) × (x.reel ≡ o)) ⊎ HasSlot xs name o

has_part : (xs ys : List (ReelSlot KeptReel)) (name : List ℕ) (o : Option KeptReel) → HasSlot xs name o ⊎ HasSlot ys name o → HasSlot (xs ++ ys) name o
has_part [] ys name o has = grind arith
has_part (x ∷ xs) ys name o has = grind (arith, has_part xs ys name o)

has_stack : (drives : List (Drive KeptReel)) (d : ℕ) (name : List ℕ) (o : Option KeptReel) → HasSlot (slice_index_or drives d (drive_with [] [])).stack name o
    → HasSlot (flat_map (λ r. r.stack) drives) name o
has_stack [] d name o has = absurd has
has_stack (r ∷ drives) zero name o has = has_part r.stack (flat_map (λ x. x.stack) drives) name o (inl has)
has_stack (r ∷ drives) (suc d) name o has = has_part r.stack (flat_map (λ x. x.stack) drives) name o (inr (has_stack drives d name o has))

has_times : (xs : List (ReelSlot KeptReel)) (name : List ℕ) (o : Option KeptReel) → HasSlot xs name o → 0 < sum_by (named name) xs
has_times [] name o has = absurd has
has_times (x ∷ xs) name o (inl here) = grind (arith, common_steps, named, bit, bytes_eq-Decides, sum_by-cons)
has_times (x ∷ xs) name o (inr rest) = omega (arith, has_times xs name o rest, sum_by-cons (named name) x xs)

-- where no name stands twice it is what lies under that name
is_named : (xs : List (ReelSlot KeptReel)) (name : List ℕ) (o : Option KeptReel) → sum_by (named name) xs ≤ 1 → HasSlot xs name o → reel_named name xs ≡ o
is_named [] name o few has = absurd has
is_named (x ∷ xs) name o few (inl here) = grind (arith, common_steps, named, bit, bytes_eq-Decides)
is_named (x ∷ xs) name o few (inr rest) =
    grind (arith, common_steps, named, bit, has_times xs name o rest, sum_by-cons (named name) x xs, is_named xs name o)

library_named : (s : TapeLibrary) (name : List ℕ) (o : Option KeptReel) → EachReelOnce s → HasSlot (slots_in s) name o → reel_named name (slots_in s) ≡ o
library_named s name o once has = is_named (slots_in s) name o (omega (arith, once name, times_named name (slots_in s))) has

-- what lies there
lies_has : (xs : List (ReelSlot KeptReel)) (name : List ℕ) (entries : List PlainEntry) → ReelLiesIn xs name entries
    → (r : KeptReel) × HasSlot xs name (Some r) × (r.entries ≡ entries)
lies_has [] name entries lies = absurd lies
lies_has (x ∷ xs) name entries (inl here) = (here.reel, inl (here.named, here.there), here.holds)
lies_has (x ∷ xs) name entries (inr rest) = let on = lies_has xs name entries rest in (on.0, inr on.1, on.2)

on_has : (s : TapeLibrary) (name : List ℕ) (entries : List PlainEntry) → ReelLiesOn s name entries
    → (r : KeptReel) × HasSlot (slots_in s) name (Some r) × (r.entries ≡ entries)
on_has s name entries r = grind (arith, common_steps, lies_has, has_part, has_stack)

away_has : (xs : List (ReelSlot KeptReel)) (name : List ℕ) → IsFirstAway xs → first_name xs ≡ name → HasSlot xs name None
away_has xs name away is = grind (arith, common_steps)

-- where all tapes of that name have these entries
told_online : (name : List ℕ) (s : TapeLibrary) (sides : List (Option ServerConnection)) (e : List PlainEntry) (j : ℕ) (t : Tape)
    → ((i : ℕ) (r : Tape) → tape_online name s (slice_index_or sides i None) ≡ Some r → entries_of r ≡ e)
    → tape_online name s (slice_index_or sides j None) ≡ Some t
    → option_map entries_of (first_tape_online name s sides) ≡ Some e
told_online name s [] e j t all has = absurd cc
told_online name s (x ∷ sides) e zero t all has =
    ap (λ o. option_map entries_of (option_or o (first_tape_online name s sides))) has ∙ ap Some (all 0 t has)
told_online name s (x ∷ sides) e (suc j) t all has = grind (arith, common_steps, all 0, told_online name s sides e j t (λ m r on. all (suc m) r on) has)

in_drive : (name : List ℕ) (s : TapeLibrary) (session : PlainSession) (t : Tape) → named_tape_in name s session ≡ Some t
    → HasInDrive s session name (entries_of t)
in_drive name s session t is = grind (arith, common_steps, bytes_eq-Decides)

online_stands : (h : ServerState) (name : List ℕ) (i : ℕ) (t : Tape) (o : Option ServerConnection) → slice_index_or h.sides i None ≡ o
    → tape_online name h.library o ≡ Some t
    → ReelHolds h name (entries_of t)
online_stands h name i t None at is = absurd cc
online_stands h name i t (Some s) at is =
    inr (suc i, s, sym (at_place h.sides i) ∙ at, in_drive name h.library s.session t is)

has_tape : (name : List ℕ) (s : TapeLibrary) (session : PlainSession) (entries : List PlainEntry) (has : HasInDrive s session name entries)
    → named_tape_in name s session ≡ Some has.2.tape
has_tape name s session entries has = grind (arith, common_steps, bytes_eq-Decides)

online_told : (h : ServerState) (k : ℕ) (s : ServerConnection) (name : List ℕ) (entries : List PlainEntry) → AreHeld h → AreLaid h → EachReelOnce h.library
    → side_of h k ≡ Some s
    → HasInDrive h.library s.session name entries → option_map entries_of (first_tape_online name h.library h.sides) ≡ Some entries
online_told h zero s name entries a l once live has = absurd cc
online_told h (suc j) s name entries a l once live has =
    told_online name h.library h.sides entries j has.2.tape
    (λ i r on.
    stands_one h (suc j) s has.0 has.1 has.2 name (entries_of r) live has.3 has.4 a l once (online_stands h name i r (slice_index_or h.sides i None) refl on)
    ∙ has.5)
    (ap (tape_online name h.library) (at_place h.sides j ∙ live) ∙ has_tape name h.library s.session entries has)

-- what stands on a reel is told
pub stands_told : (h : ServerState) (name : List ℕ) (entries : List PlainEntry) → AreHeld h → AreLaid h → EachReelOnce h.library → ReelHolds h name entries
    → entries_on h name ≡ Some entries
stands_told h name entries a l once (inl lies) =
    let on = on_has h.library name entries lies in grind (arith, library_named h.library name (Some on.0) once on.1)
stands_told h name entries a l once (inr (k, s, live, has)) =
    let away = away_has (drive_at h.library has.0).stack name (l.latched has.0 (k, s, live, ap online_drive_in has.3)) has.4 in
    let slot = has_part (flat_map (λ r. r.stack) h.library.drives) h.library.bin name None (inl (has_stack h.library.drives has.0 name None away)) in
    grind (arith, library_named h.library name None once slot, online_told h k s name entries a l once live has)

pub volumes_told : (w : World) → IsWorldKept w → CountedReels w → TellsVolumes w
volumes_told w kept counted x b among begun last =
    let on = counted x among in
    let same : on.begun ≡ b = same_Some on.begun b (sym on.begun_as ∙ begun) in
    grind (arith, common_steps, same_Some, stands_told)
