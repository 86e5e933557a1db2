-- Reels that live sides have online.
use Rattle.tape_world.proofs.Layers.{common_steps, ◌≡◌, ℕ, zero, suc, ◌+◌, ◌<◌, List, [], ◌∷◌, length, take, option_map, Option, Some, None, refl, ap, add-one, arith, slice_index_or, option_or, slice_get_within, AreHeld, Tape, TapeLibrary, PlainSession, drive_in, ServerState, ServerConnection, side_at, AreOpenThere, tape_online, first_tape_online}
use Rattle.tape_world.proofs.Server.{side_found}

-- the drive of a session that is told of a connection
pub drive_there : (h : ServerState) (k d : ℕ) (s : PlainSession) → AreOpenThere h
    → option_map (λ (x : ServerConnection). x.session) (side_at h.sides k) ≡ Some s
    → drive_in s ≡ Some d → d < length h.library.drives
drive_there h k d s there told is = grind (arith, common_steps, side_found h k, there k d)

-- the connection of a place
pub side_here : (sides : List (Option ServerConnection)) (i : ℕ) → side_at sides (i + 1) ≡ slice_index_or sides i None
side_here sides i = ap (side_at sides) (add-one i)

-- the first that has one online, after those that have none
first_here : (name : List ℕ) (s : TapeLibrary) (sides : List (Option ServerConnection)) (i : ℕ) (t : Tape) → first_tape_online name s (take i sides) ≡ None
    → tape_online name s (slice_index_or sides i None) ≡ Some t → first_tape_online name s sides ≡ Some t
first_here name s [] i t none some = absurd cc
first_here name s (x ∷ sides) zero t none some = ap (λ o. option_or o (first_tape_online name s sides)) some
first_here name s (x ∷ sides) (suc i) t none some = grind (arith, common_steps, first_here name s sides i t)

pub first_found : (name : List ℕ) (s : TapeLibrary) (sides : List (Option ServerConnection)) (i : ℕ) (t : Tape) (o : Option Tape)
    → first_tape_online name s (take i sides) ≡ None
    → o ≡ tape_online name s (side_at sides (i + 1)) → o ≡ Some t → first_tape_online name s sides ≡ Some t
first_found name s sides i t o none is some = grind (arith, common_steps, first_here, side_here)

none_here : (name : List ℕ) (s : TapeLibrary) (sides : List (Option ServerConnection)) (i : ℕ) → first_tape_online name s (take i sides) ≡ None
    → tape_online name s (slice_index_or sides i None) ≡ None → first_tape_online name s (take (suc i) sides) ≡ None
none_here name s [] i none here = refl
none_here name s (x ∷ sides) zero none here = ap (λ o. option_or o None) here
none_here name s (x ∷ sides) (suc i) none here = grind (arith, common_steps, none_here name s sides i)

-- one connection more that has none
pub none_more : (name : List ℕ) (s : TapeLibrary) (sides : List (Option ServerConnection)) (i : ℕ) (o : Option Tape)
    → first_tape_online name s (take i sides) ≡ None
    → o ≡ tape_online name s (side_at sides (i + 1)) → o ≡ None → first_tape_online name s (take (i + 1) sides) ≡ None
none_more name s sides i o none is here = grind (arith, common_steps, add-one, none_here, side_here)

-- each drive that a live side has open is there, where holders are those that have them open
pub held_there : (h : ServerState) → AreHeld h → AreOpenThere h
held_there h a k d s at is = let few = slice_get_within h.holders d k (a.opened k d s at is) in let places = a.places in omega (arith, few, places)
