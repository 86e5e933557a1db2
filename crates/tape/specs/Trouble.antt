-- A device that can be made to fail: which calls reach it, and what a failed one leaves. Public
-- contracts cite it.
use Rattle.std.specs.Prelude.{◌≡◌, ◌≢◌, ◌⊎◌, ℕ, ◌+◌, ◌*◌, ◌<◌, ◌≤◌, List, [], ◌∷◌, ◌++◌, length, take, replicate, true, Option, MatchOption}
use Rattle.tape.specs.Failures.{raised}
use Rattle.tape.specs.Tape.{PlainEntry, Tape, TapeRequest, TapeAnswer, TapeStep, tape, offset_of}
use Rattle.tape.specs.Tape.PlainEntry.{Record, Mark}
use Rattle.tape.specs.Tape.TapeRequest.{Write, Read, WriteMarks, ForwardFiles, BackFiles, ForwardRecords, BackRecords, Rewind, Nothing, Unknown}
use Rattle.tape.specs.Tape.TapeAnswer.{Fault}
use Rattle.tape.specs.Call.{IsTapeCall, ReelKind, reel_kind}
use Rattle.tape.specs.declared.fault.TapeFault.TheVariants.{Device, OutOfMemory}
use Rattle.tape.specs.declared.trouble.Trouble.{Trouble}
use Rattle.tape.specs.declared.trouble.Trouble.TheVariants.{None, Kept, Lost, Written}

-- The call reaches the device: a write and marks if there is room for them, and every read. Spacing
-- and marks reach it only with a count of at least 1. (If an allocation fails, the call stops
-- before the device.)
abbrev pub ComesToDevice : ℕ → Tape → TapeRequest → Type 0
ComesToDevice capacity t (Write bytes) = offset_of t.before + length bytes + 12 ≤ capacity
ComesToDevice capacity t (Read count) = Unit {0}
ComesToDevice capacity t (WriteMarks count) = (0 < count) × (offset_of t.before + 4 * count ≤ capacity)
ComesToDevice capacity t (ForwardFiles count) = 0 < count
ComesToDevice capacity t (BackFiles count) = 0 < count
ComesToDevice capacity t (ForwardRecords count) = 0 < count
ComesToDevice capacity t (BackRecords count) = 0 < count
ComesToDevice capacity t Rewind = ⊥
ComesToDevice capacity t Nothing = ⊥
ComesToDevice capacity t Unknown = ⊥

-- The entries from the place on after a write with this trouble. `stood` are the old ones. With no
-- trouble they are all that was written, else the old ones, none, or the first that were written.
abbrev pub left_by : Trouble → List PlainEntry → List PlainEntry → List PlainEntry
left_by None stood written = written
left_by Kept stood written = stood
left_by Lost stood written = []
left_by (Written count) stood written = take count written

-- The tape after a write of these entries with this trouble. With no trouble the place is after
-- them, else it is unchanged.
abbrev pub put_by : Trouble → List PlainEntry → Tape → Tape
put_by None written t = tape (t.before ++ written) []
put_by trouble written t = tape t.before (left_by trouble t.after written)

-- The entries from the place on after a call with this trouble. Only writes change them.
abbrev pub left_after : Trouble → TapeRequest → List PlainEntry → List PlainEntry
left_after trouble (Write bytes) stood = left_by trouble stood (Record bytes ∷ [])
left_after trouble (WriteMarks count) stood = left_by trouble stood (replicate count Mark)
left_after trouble request stood = stood

-- The device does not fail in the call: no trouble is set, or the call does not reach the device.
abbrev pub IsUntroubled : ℕ → Trouble → Tape → TapeRequest → Type 0
IsUntroubled capacity trouble t request = (trouble ≡ None) ⊎ (ComesToDevice capacity t request → ⊥)

-- One call on a tape whose device has this trouble. The answer is `Device` exactly if the call
-- reached the device and a trouble was set. The place and the entries before it are unchanged then,
-- and the trouble determines the entries from there on. Any other call is that of a device that
-- does not fail. An allocation fails before the device is called.
abbrev pub DeviceStep : ℕ → Trouble → Tape → TapeRequest → TapeAnswer → Tape → Type 0
DeviceStep capacity trouble t request (Fault Device) u =
    (trouble ≢ None) × ComesToDevice capacity t request × (u ≡ tape t.before (left_after trouble request t.after))
DeviceStep capacity trouble t request (Fault OutOfMemory) u = TapeStep capacity t request (Fault OutOfMemory) u
DeviceStep capacity trouble t request answer u = IsUntroubled capacity trouble t request × TapeStep capacity t request answer u

-- Each of these steps is a step of a tape of this capacity.
abbrev pub AreTapeSteps : ℕ → (Tape → TapeRequest → TapeAnswer → Tape → Type 0) → Type 0
AreTapeSteps capacity step =
    (t : Tape) (request : TapeRequest) (answer : TapeAnswer) (u : Tape) → step t request answer u → TapeStep capacity t request answer u

-- The view of a reel whose device can be made to fail: its tape and its capacity in bytes.
-- `trouble` is how the next device call fails, and `failures` is how many have failed.
pub record TroubledTape : Type 0 where
  pub tape : Tape
  pub capacity : ℕ
  pub trouble : Trouble
  pub failures : ℕ

-- Its tape is always known.
abbrev pub IsTapeOf : TroubledTape → Tape → Type 0
IsTapeOf reel t = reel.tape ≡ t

-- A failed device call is counted, and its trouble is cleared. Any other call changes neither.
abbrev pub IsCounted : TapeAnswer → TroubledTape → TroubledTape → Type 0
IsCounted (Fault Device) old new = (new.trouble ≡ None) × (new.failures ≡ raised old.failures)
IsCounted answer old new = (new.trouble ≡ old.trouble) × (new.failures ≡ old.failures)

-- One call of a reel in memory on which a trouble can be set.
pub record TroubledStep (old new : TroubledTape) (request : TapeRequest) (answer : TapeAnswer) : Type 0 where
  pub step : DeviceStep old.capacity old.trouble old.tape request answer new.tape
  pub counted : IsCounted answer old new
  pub same_capacity : new.capacity ≡ old.capacity

-- The promises of a reel in memory on which a trouble can be set: its device can fail if one is
-- set.
abbrev pub troubled_kind : ReelKind TroubledTape
troubled_kind = reel_kind IsTapeOf (λ r. r.capacity) (λ r. r.failures) (λ r. r.trouble ≢ None) TroubledStep true

-- One call of a reel in memory on which a trouble can be set, with the promises of every reel.
abbrev pub IsTroubledCall : TroubledTape → TroubledTape → TapeRequest → TapeAnswer → Type 0
IsTroubledCall old new request answer = IsTapeCall troubled_kind old new request answer

-- How many of `count` written entries remain after this trouble. `None` if the old ones remain.
abbrev pub IsTroubleLeft : Trouble → ℕ → Option ℕ → Type 0
IsTroubleLeft trouble count left = (stood written : List PlainEntry) → length written ≡ count
    → MatchOption left (left_by trouble stood written ≡ stood) (λ n. left_by trouble stood written ≡ take n written)
