-- The calls of stacks: their arguments and results. A drive's latched reel is the first of its
-- stack: it is in the drive until it is laid back or moved to the bin. A kind of stacks is a type
-- that implements `Stacks`, with what it promises. Public contracts cite it.
use Rattle.std.specs.Prelude.{ℕ, Option, Some, None, Result, Ok, Err}
use Rattle.drives.specs.TapeLibrary.{TapeLibrary}
use Rattle.drives.specs.declared.fault.DriveFault.{DriveFault}

-- a call of stacks, with its arguments and its result
pub data StacksCall (R : Type 0) : Type 0 where
  -- latches the first reel of this drive
  Latch : (drive : ℕ) → (result : Result R DriveFault) → StacksCall R
  -- lays the reel that is latched at this drive back on its stack
  LayBack : (drive : ℕ) → (reel : R) → StacksCall R
  -- moves the reel that is latched at this drive to the bin
  Move : (drive : ℕ) → (reel : R) → (result : Result Unit DriveFault) → StacksCall R

-- the error of a failed call
abbrev pub refusal_of : {X : Type 0} → Result X DriveFault → Option DriveFault
refusal_of (Ok x) = None
refusal_of (Err fault) = Some fault

-- the error of the call, if it failed
abbrev pub fault_of : {R : Type 0} → StacksCall R → Option DriveFault
fault_of (Latch drive result) = refusal_of result
fault_of (LayBack drive reel) = None
fault_of (Move drive reel result) = refusal_of result

-- the value of a call that did not fail
abbrev pub given_by : {X : Type 0} → Result X DriveFault → Option X
given_by (Ok x) = Some x
given_by (Err fault) = None

-- the reel that the call took from the stacks, if any
abbrev pub reel_taken : {R : Type 0} → StacksCall R → Option R
reel_taken (Latch drive result) = given_by result
reel_taken (LayBack drive reel) = None
reel_taken (Move drive reel result) = None

-- the reel that the call was given, if any
abbrev pub reel_brought : {R : Type 0} → StacksCall R → Option R
reel_brought (Latch drive result) = None
reel_brought (LayBack drive reel) = Some reel
reel_brought (Move drive reel result) = Some reel

-- the drive, if the call did not fail
abbrev pub drive_if_done : {X : Type 0} → ℕ → Result X DriveFault → Option ℕ
drive_if_done drive (Ok x) = Some drive
drive_if_done drive (Err fault) = None

-- the drive at which the call latched a reel, if any
abbrev pub drive_latched : {R : Type 0} → StacksCall R → Option ℕ
drive_latched (Latch drive result) = drive_if_done drive result
drive_latched (LayBack drive reel) = None
drive_latched (Move drive reel result) = None

-- the drive at which no reel is latched after the call, because it laid back or moved the reel
abbrev pub drive_left : {R : Type 0} → StacksCall R → Option ℕ
drive_left (Latch drive result) = None
drive_left (LayBack drive reel) = Some drive
drive_left (Move drive reel result) = drive_if_done drive result

-- the result of a move, without the reel that its error contains
abbrev pub moved_result : {R : Type 0} → Result Unit (R × DriveFault) → Result Unit DriveFault
moved_result (Ok done) = Ok done
moved_result (Err refused) = Err refused.1

-- What stacks of one kind promise: their contents, the number of drives, the count of failures and
-- whether a device can fail. `makes` is what they promise of a call beyond the promises of all
-- stacks.
pub record StacksKind (S R : Type 0) : Type 1 where
  pub holds : S → TapeLibrary → Type 0
  pub drives : S → ℕ
  pub failures : S → ℕ
  pub can_fail : S → Type 0
  pub makes : S → S → StacksCall R → Type 0

-- builds a StacksKind from its parts
abbrev pub stacks_kind : {S R : Type 0} → (S → TapeLibrary → Type 0) → (S → ℕ) → (S → ℕ) → (S → Type 0)
    → (S → S → StacksCall R → Type 0) → StacksKind S R
stacks_kind holds drives failures can_fail makes =
    record { holds = holds; drives = drives; failures = failures; can_fail = can_fail; makes = makes }
