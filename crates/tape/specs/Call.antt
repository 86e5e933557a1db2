-- One call of a reel. A kind of reel is a type that implements `Reel`, with what it promises. `r`
-- has the promises of the kind of reel. Public contracts cite it.
use Rattle.std.specs.Prelude.{◌≡◌, ◌⊎◌, ℕ, ◌<◌, ◌≤◌, List, Bool, IsTrue, length}
use Rattle.tape.specs.Failures.{HasRisen, Steps}
use Rattle.tape.specs.Tape.{Tape, TapeRequest, TapeAnswer, TapeStep}
use Rattle.tape.specs.Tape.TapeRequest.{Write, Read, WriteMarks, ForwardFiles, BackFiles, ForwardRecords, BackRecords, Rewind, Nothing, Unknown}
use Rattle.tape.specs.Tape.TapeAnswer.{Done, Gave, Fault}
use Rattle.tape.specs.declared.fault.TapeFault.TheVariants.{Device, Full, EndOrMark, BadOperation, OutOfMemory}

-- The answers of spacing. It fails only if its count is at least 1.
abbrev pub CanSpace : ℕ → TapeAnswer → Type 0
CanSpace count answer = (answer ≡ Done) ⊎ ((0 < count) × ((answer ≡ Fault EndOrMark) ⊎ (answer ≡ Fault Device)))

-- The answers that a call can have, whatever is on the tape. A read gives at most the bytes that it
-- asked for. Marks fail only if their count is at least 1.
abbrev pub CanAnswer : TapeRequest → TapeAnswer → Type 0
CanAnswer (Write bytes) answer = (answer ≡ Done) ⊎ (answer ≡ Fault Full) ⊎ (answer ≡ Fault Device) ⊎ (answer ≡ Fault OutOfMemory)
CanAnswer (Read count) answer = ((bytes : List ℕ) × (length bytes ≤ count) × (answer ≡ Gave bytes)) ⊎ (answer ≡ Fault Device)
CanAnswer (WriteMarks count) answer =
    (answer ≡ Done) ⊎ ((0 < count) × ((answer ≡ Fault Full) ⊎ (answer ≡ Fault Device) ⊎ (answer ≡ Fault OutOfMemory)))
CanAnswer (ForwardFiles count) answer = CanSpace count answer
CanAnswer (BackFiles count) answer = CanSpace count answer
CanAnswer (ForwardRecords count) answer = CanSpace count answer
CanAnswer (BackRecords count) answer = CanSpace count answer
CanAnswer Rewind answer = answer ≡ Done
CanAnswer Nothing answer = answer ≡ Done
CanAnswer Unknown answer = answer ≡ Fault BadOperation

-- The promises of a kind of reel. `holds` relates it to its tape, if the tape is known. `capacity`
-- is in bytes. `failures` counts the failures of its device, and `can_fail` says whether that can
-- fail. `makes` is what a call promises in addition to the promises of every reel. `grows` says
-- whether a call can allocate.
pub record ReelKind (S : Type 0) : Type 1 where
  pub holds : S → Tape → Type 0
  pub capacity : S → ℕ
  pub failures : S → ℕ
  pub can_fail : S → Type 0
  pub makes : S → S → TapeRequest → TapeAnswer → Type 0
  pub grows : Bool

-- A kind of reel with these promises.
abbrev pub reel_kind : {S : Type 0} → (S → Tape → Type 0) → (S → ℕ) → (S → ℕ) → (S → Type 0)
    → (S → S → TapeRequest → TapeAnswer → Type 0) → Bool → ReelKind S
reel_kind holds capacity failures can_fail makes grows =
    record { holds = holds; capacity = capacity; failures = failures; can_fail = can_fail; makes = makes; grows = grows }

-- What every call of a reel promises: about its answer, the tape, the device and the count of
-- failures.
pub record IsTapeCall {S : Type 0} (r : ReelKind S) (old new : S) (request : TapeRequest) (answer : TapeAnswer) : Type 0 where
  -- If the tape is known before the call, the tape is known after the call, and `TapeStep` says how
  -- the call changed the tape.
  pub step : Steps r.holds old new (λ t u. TapeStep (r.capacity old) t request answer u)
  -- Even if the tape is unknown, the answer is one that `CanAnswer` allows for this kind of call.
  pub can : CanAnswer request answer
  -- The answer is `Device` only if the device failed in the call.
  pub device : answer ≡ Fault Device → HasRisen (r.failures old) (r.failures new)
  -- If the device failed in the call, the answer is `Device`.
  pub failed : (r.failures new ≡ r.failures old) ⊎ (answer ≡ Fault Device)
  -- The answer is `Device` only if the device can fail. If the device cannot fail before the call,
  -- the device cannot fail after the call.
  pub able : answer ≡ Fault Device → r.can_fail old
  pub quiet : r.can_fail new → r.can_fail old
  -- The answer is `OutOfMemory` only if the reel can allocate.
  pub memory : answer ≡ Fault OutOfMemory → IsTrue r.grows
  -- The count of failures does not fall, and the capacity does not change.
  pub counted : r.failures old ≤ r.failures new
  pub same_capacity : r.capacity new ≡ r.capacity old
  -- The call also keeps the promises that only this kind of reel makes.
  pub made : r.makes old new request answer
