-- The entries of a reel that is opened again after a write was stopped. Public contracts cite it.
use Rattle.std.specs.Prelude.{◌≡◌, ◌⊎◌, ℕ, ◌<◌, ◌≤◌, List, [], ◌++◌, replicate}
use Rattle.tape.specs.Tape.{PlainEntry, Tape, TapeRequest, TapeAnswer, TapeStep, entries_of, tape}
use Rattle.tape.specs.Tape.PlainEntry.{Mark}
use Rattle.tape.specs.Tape.TapeAnswer.{Done, Fault}
use Rattle.tape.specs.RecordFile.{FileTape, HoldsTape}
use Rattle.tape.specs.Fuse.{Fused}
use Rattle.tape.specs.declared.fault.TapeFault.TheVariants.{Device}

-- If the tape of the old reel was known, that of the reel opened again is known too. It is at its
-- beginning, and its entries are related to the old tape by `stands`.
abbrev pub Reopens : {M : Type 0} → (M → List ℕ → Type 0) → FileTape (Fused M) → FileTape M → (Tape → List PlainEntry → Type 0) → Type 0
Reopens holds old new stands =
    (t : Tape) → HoldsTape (λ f bytes. holds f.inner bytes) old t → (u : List PlainEntry) × HoldsTape holds new (tape [] u) × stands t u

-- The entries before the place remain. After them is what was written, if that succeeded. If the
-- device failed, after them are the old entries, none, or what was written. After any other error
-- they are the old entries.
abbrev pub StandsAfterWrite : Tape → List PlainEntry → TapeAnswer → List PlainEntry → Type 0
StandsAfterWrite t written Done u = u ≡ t.before ++ written
StandsAfterWrite t written (Fault Device) u = (u ≡ t.before ++ t.after) ⊎ (u ≡ t.before) ⊎ (u ≡ t.before ++ written)
StandsAfterWrite t written answer u = u ≡ t.before ++ t.after

-- The entries before the place remain. After them are `count` marks, if writing them succeeded. If
-- the device failed, after them are the old entries, or any number of the marks up to all. A count
-- of 0 writes nothing.
abbrev pub StandsAfterMarks : Tape → ℕ → TapeAnswer → List PlainEntry → Type 0
StandsAfterMarks t count Done u = ((count ≡ 0) × (u ≡ t.before ++ t.after)) ⊎ ((0 < count) × (u ≡ t.before ++ replicate count Mark))
StandsAfterMarks t count (Fault Device) u =
    (u ≡ t.before ++ t.after) ⊎ ((some : ℕ) × (some ≤ count) × (u ≡ t.before ++ replicate some Mark))
StandsAfterMarks t count answer u = u ≡ t.before ++ t.after

-- The entries are those of a tape after a step with this request and answer.
abbrev pub StandsAfterStep : ℕ → Tape → TapeRequest → TapeAnswer → List PlainEntry → Type 0
StandsAfterStep capacity t request answer u = (v : Tape) × TapeStep capacity t request answer v × (u ≡ entries_of v)
