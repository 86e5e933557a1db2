-- How many of the reels that lie on the stacks and in the bin have a trouble set, after a call of stacks in memory.
use Rattle.std.proofs.Common.{◌≡◌, ◌<◌, length, Some, None, Ok, IsSome, arith}
use Rattle.drives.proofs.Names.{Drive, length-set, TroubledTape, StacksCall, Latch, LayBack, Move, drive_at, latched_at}
use Rattle.drives.proofs.Names.{ListLibrary, is_set_in, IsListStacksCall, MovesTroubles}
use Rattle.drives.proofs.Shops.{bit, first_of, length_waiting, length_latched, sum_by_at_first, sum_by_to_bin}

-- the drive of the call is one of those, and the reel that it brings is latched there
abbrev pub IsAtDrive : ListLibrary → StacksCall TroubledTape → Type 0
IsAtDrive s (Latch d result) = d < length s.library.drives
IsAtDrive s (LayBack d reel) = (d < length s.library.drives) × IsSome (latched_at s.library d)
IsAtDrive s (Move d reel result) = (d < length s.library.drives) × IsSome (latched_at s.library d)

-- a latch takes its reel away with its trouble, and a reel that is laid back or moved brings its own
pub lying : (old new : ListLibrary) (call : StacksCall TroubledTape) → IsAtDrive old call → MovesTroubles old call new
lying old new (Latch d (Ok reel)) l h =
    let w = first_of (drive_at old.library d).stack (length_waiting (drive_at old.library d).stack h.1.0 h.1.1) in
    grind (arith, w.2, sum_by_at_first (λ x. bit (is_set_in x.reel)) old.library d None w.0 w.1 l w.2)
lying old new (LayBack d reel) at h =
    let w = first_of (drive_at old.library d).stack (length_latched (drive_at old.library d).stack at.1) in
    grind (arith, w.2, sum_by_at_first (λ x. bit (is_set_in x.reel)) old.library d (Some reel) w.0 w.1 at.0 w.2)
lying old new (Move d reel (Ok x)) at h =
    let w = first_of (drive_at old.library d).stack (length_latched (drive_at old.library d).stack at.1) in
    grind (arith, w.2, sum_by_to_bin (λ x. bit (is_set_in x.reel)) old.library d reel w.0 w.1 at.0 w.2)
lying old new call at h = grind arith

-- the number of drives stays
pub same_drives : (old new : ListLibrary) (call : StacksCall TroubledTape) → IsListStacksCall old new call → length new.library.drives ≡ length old.library.drives
same_drives old new call h = grind (arith, length-set {A = Drive TroubledTape})
