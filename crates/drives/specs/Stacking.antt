-- The effect of a call of stacks, and what it promises. A drive's latched reel is the first of its
-- stack: it is in the drive until it is laid back or moved to the bin. A kind of stacks is a type
-- that implements `Stacks`, with what it promises. `s` and `r` have the promises of the kinds of
-- the stacks and of their reels. Public contracts cite it.
use Rattle.std.specs.Prelude.{◌≡◌, ◌≢◌, ◌⊎◌, ℕ, ◌≤◌, [], Option, Some, None, Result, Ok, Err, IsSome}
use Rattle.tape.specs.Failures.{HasRisen, Steps}
use Rattle.tape.specs.Tape.{Tape, tape, entries_of}
use Rattle.tape.specs.declared.reel.Reel.{Ghosts as ReelPromise}
use Rattle.drives.specs.declared.fault.DriveFault.{DriveFault}
use Rattle.drives.specs.declared.fault.DriveFault.TheVariants.{NoReel, Device, OutOfMemory, NameTaken}
use Rattle.drives.specs.TapeLibrary.{TapeLibrary, KeptReel, waiting_reel, latched_at, after_latch, after_unlatch, after_offline, IsNameInBin}
use Rattle.drives.specs.Calls.{StacksKind, StacksCall, fault_of, reel_taken, reel_brought, drive_latched, drive_left, moved_result}
use Rattle.drives.specs.Calls.StacksCall.{Latch, LayBack, Move}

-- The first reel of drive d was latched, at its beginning. This fails only with NoReel, if no reel
-- is there, or with another error if one is. Then nothing is changed.
abbrev pub LatchStep : {R : Type 0} → (R → Tape → Type 0) → (R → ℕ) → ℕ → Result R DriveFault → TapeLibrary → TapeLibrary → Type 0
LatchStep holds capacity d (Ok reel) s now =
    (first : KeptReel) × (waiting_reel s d ≡ Some first) × (now ≡ after_latch s d)
    × holds reel (tape [] first.entries) × (capacity reel ≡ first.capacity)
LatchStep holds capacity d (Err NoReel) s now = (waiting_reel s d ≡ None) × (now ≡ s)
LatchStep holds capacity d (Err fault) s now = (waiting_reel s d ≢ None) × (now ≡ s)

-- A reel was not moved. Nothing is changed, and the error is NameTaken only if the bin has its
-- name.
abbrev pub StaysOnline : ℕ → DriveFault → TapeLibrary → TapeLibrary → Type 0
StaysOnline d fault s now = (now ≡ s) × (fault ≡ NameTaken → IsNameInBin s (latched_at s d))

-- if the contents of `stacks` are specified, a reel is latched at drive `d`
abbrev pub HasLatched : {S : Type 0} → (S → TapeLibrary → Type 0) → S → ℕ → Type 0
HasLatched {S} holds stacks d = (s : TapeLibrary) → holds stacks s → IsSome (latched_at s d)

-- The effect of the call on the library, if the contents of the stacks are specified. A reel that
-- is laid back or moved keeps the entries and the capacity that it has then.
abbrev pub LibraryStep : {S R : Type 0} → StacksKind S R → ReelPromise R → S → StacksCall R → S → Type 0
LibraryStep s r old (Latch d result) new = Steps s.holds old new (LatchStep r.holds r.capacity d result)
LibraryStep s r old (LayBack d reel) new =
    (t : Tape) → r.holds reel t → Steps s.holds old new (λ v now. now ≡ after_unlatch v d (entries_of t) (r.capacity reel))
LibraryStep s r old (Move d reel (Ok done)) new =
    (t : Tape) → r.holds reel t → Steps s.holds old new (λ v now. now ≡ after_offline v d (entries_of t) (r.capacity reel))
LibraryStep s r old (Move d reel (Err why)) new = Steps s.holds old new (StaysOnline d why)

-- the error, if there is one, is one that a latch can return
abbrev pub IsLatchFault : Option DriveFault → Type 0
IsLatchFault fault = (fault ≡ None) ⊎ (fault ≡ Some NoReel) ⊎ (fault ≡ Some Device) ⊎ (fault ≡ Some OutOfMemory)

-- the error, if there is one, is one that a move can return
abbrev pub IsMoveFault : Option DriveFault → Type 0
IsMoveFault fault = (fault ≡ None) ⊎ (fault ≡ Some Device) ⊎ (fault ≡ Some OutOfMemory) ⊎ (fault ≡ Some NameTaken)

-- the call's error, if it failed, is one that such a call can return
abbrev pub CanStacksAnswer : {R : Type 0} → StacksCall R → Type 0
CanStacksAnswer (Latch d result) = IsLatchFault (fault_of (Latch d result))
CanStacksAnswer (LayBack d reel) = Unit {0}
CanStacksAnswer (Move d reel result) = IsMoveFault (fault_of (Move d reel result))

-- there is a reel, and its device can fail
abbrev pub ReelCanFail : {R : Type 0} → ReelPromise R → Option R → Type 0
ReelCanFail r None = ⊥
ReelCanFail r (Some reel) = r.can_fail reel

-- what each call of `latch`, `unlatch` or `offline` promises
pub record IsStacksCall {S R : Type 0} (s : StacksKind S R) (r : ReelPromise R) (old : S) (call : StacksCall R) (new : S) : Type 0 where
  -- If the contents of the stacks are known, `LibraryStep` says how the call changes the library.
  -- If the caller passed a reel, the reel's contents must be known too.
  pub step : LibraryStep s r old call new
  -- Even if the contents are unknown, a latch fails only with `NoReel`, `Device` or `OutOfMemory`.
  -- A move fails only with `Device`, `OutOfMemory` or `NameTaken`.
  pub can : CanStacksAnswer call
  -- After a latch that succeeded, the drive has a latched reel. A drive that had a latched reel
  -- before the call still has one, unless the call laid this reel back or moved this reel.
  pub latched : (d : ℕ) → drive_latched call ≡ Some d → HasLatched s.holds new d
  pub elsewhere : (d : ℕ) → drive_left call ≢ Some d → HasLatched s.holds old d → HasLatched s.holds new d
  -- The call returns `Device` only if the device failed during the call.
  pub device : fault_of call ≡ Some Device → HasRisen (s.failures old) (s.failures new)
  -- If the device failed during the call, the call returns `Device`.
  pub failed : (s.failures new ≡ s.failures old) ⊎ (fault_of call ≡ Some Device)
  -- If no device could fail before the call, the call does not return `Device`, and latches no reel
  -- whose device can fail. After such a call, a device can fail only if the caller passed a reel
  -- whose device can fail.
  pub able : fault_of call ≡ Some Device → s.can_fail old
  pub quiet : s.can_fail new → s.can_fail old ⊎ ReelCanFail r (reel_brought call)
  pub quiet_reel : ReelCanFail r (reel_taken call) → s.can_fail old
  -- The count of failures does not fall, and the number of drives does not change.
  pub counted : s.failures old ≤ s.failures new
  pub same_drives : s.drives new ≡ s.drives old
  -- The call also keeps the further promises of the type that implements `Stacks` (`makes`).
  pub made : s.makes old new call

-- one call of stacks, which is a move with this result
abbrev pub IsMoveCall : {S R : Type 0} → StacksKind S R → ReelPromise R → S → ℕ → R → Result Unit (R × DriveFault) → S → Type 0
IsMoveCall s r old drive reel result new = IsStacksCall s r old (Move drive reel (moved_result result)) new
