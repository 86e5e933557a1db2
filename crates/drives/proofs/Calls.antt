-- Each call of stacks in memory is one of stacks.
use Rattle.std.proofs.Common.{◌≡◌, ◌≢◌, ◌⊎◌, ℕ, ◌<◌, length, Some, None, Ok, Err, IsSome, sym, ap, ◌∙◌, subst, inl, inr, arith}
use Rattle.drives.proofs.Names.{option_map, Steps, TroubledTape, of_reel, TapeLibrary, drive_at, EachReelOnce, latched_at, StacksKind, StacksCall}
use Rattle.drives.proofs.Names.{stacks_kind, drive_latched, drive_left, Latch, LayBack, Move, ListLibrary, at_rest, library_of, IsLibrary}
use Rattle.drives.proofs.Names.{StacksCanFail, IsListStacksCall, HasLatched, LibraryStep, IsStacksCall}
use Rattle.drives.proofs.Shops.{KeepsNames, once_kept, keeps_at_first, keeps_to_bin, length_waiting, length_latched, latched_at_first}
use Rattle.drives.proofs.ListLibrary.{told, keeps_is, waiting_rest, at_first_rest, to_bin_rest}
use Rattle.drives.proofs.Elsewhere.{latched_in, has_latched, latched_elsewhere}
use Rattle.drives.proofs.Lying.{IsAtDrive, lying, same_drives}

abbrev of_list : StacksKind ListLibrary TroubledTape
of_list = stacks_kind IsLibrary (λ s. length s.library.drives) (λ s. s.failures) StacksCanFail IsListStacksCall

-- no name comes or goes
call_keeps : (old new : ListLibrary) (call : StacksCall TroubledTape) → IsAtDrive old call → IsListStacksCall old new call → KeepsNames old.library new.library
call_keeps old new (Latch d (Ok reel)) l h = keeps_is old new _ h.2 (keeps_at_first old.library d None l)
call_keeps old new (LayBack d reel) at h = keeps_is old new _ h (keeps_at_first old.library d (Some reel) at.0)
call_keeps old new (Move d reel (Ok x)) at h = keeps_is old new _ h.1 (keeps_to_bin old.library d reel at.0 (length_latched (drive_at old.library d).stack at.1))
call_keeps old new call at h = λ f. grind arith

-- what is told is moved as the reels are
steps : (P : TapeLibrary → TapeLibrary → Type 0) (old new : ListLibrary) → KeepsNames old.library new.library → EachReelOnce old.library → P (library_of old) (library_of new)
    → Steps IsLibrary old new P
steps P old new same once step t tells = (library_of new, told new (once_kept old.library new.library same once), subst (λ x. P x (library_of new)) (sym tells.0) step)

step_of : (old new : ListLibrary) (call : StacksCall TroubledTape) → KeepsNames old.library new.library → EachReelOnce old.library
    → IsListStacksCall old new call → LibraryStep of_list of_reel old call new
step_of old new (Latch d (Ok reel)) same once h = steps _ old new same once
    (at_rest h.1.0, waiting_rest old d ∙ ap (option_map at_rest) h.1.1, rw h.2 (at_first_rest old d None), grind arith, grind arith)
step_of old new (Latch d (Err why)) same once h = steps _ old new same once (grind (arith, waiting_rest old d))
step_of old new (LayBack d reel) same once h = λ t on. steps _ old new same once (grind (arith, at_first_rest old d (Some reel)))
step_of old new (Move d reel (Ok x)) same once h = λ t on. steps _ old new same once (grind (arith, to_bin_rest old d reel))
step_of old new (Move d reel (Err why)) same once h = steps _ old new same once (grind arith)

-- a reel that was latched is away, and one that is not laid back or moved stays so
latched_after : (old new : ListLibrary) (call : StacksCall TroubledTape) → IsAtDrive old call → IsListStacksCall old new call → (e : ℕ)
    → (drive_latched call ≡ Some e) ⊎ ((drive_left call ≢ Some e) × IsSome (latched_at old.library e)) → IsSome (latched_at new.library e)
latched_after old new (Latch d (Ok reel)) l h e is =
    let waits = length_waiting (drive_at old.library d).stack h.1.0 h.1.1 in
    grind (arith, h.2, latched_at_first old.library d l waits, latched_elsewhere old.library d e)
latched_after old new call at h e is = grind (arith, latched_elsewhere old.library)

-- A call of stacks in memory is one of stacks. By `lying` no reel that can fail comes to the stacks but the one that the call brings,
-- and a reel that is latched with a trouble lay there with it.
pub list_call : (old new : ListLibrary) (call : StacksCall TroubledTape) → IsAtDrive old call → EachReelOnce old.library
    → IsListStacksCall old new call → IsStacksCall of_list of_reel old call new
list_call old new call at once h =
    let moves = lying old new call at h in
    let was = λ (e : ℕ) (k : HasLatched IsLibrary old e). latched_in old (library_of old) e (told old once) k in
    record {
      step = step_of old new call (call_keeps old new call at h) once h;
      can = grind arith;
      latched = λ e is. has_latched new e (latched_after old new call at h e (inl is));
      elsewhere = λ e n k. has_latched new e (latched_after old new call at h e (inr (n, was e k)));
      device = λ is. grind arith;
      failed = grind arith;
      able = λ is. grind arith;
      quiet = λ f. grind arith;
      quiet_reel = λ f. grind arith;
      counted = grind arith;
      same_drives = same_drives old new call h;
      made = h;
    }

-- the reel that a call lays back or moves is latched at its drive
pub at_latched : (s : ListLibrary) (d : ℕ) → d < length s.library.drives → EachReelOnce s.library → HasLatched IsLibrary s d → (d < length s.library.drives) × IsSome (latched_at s.library d)
at_latched s d l once latched = (l, latched_in s (library_of s) d (told s once) latched)
