-- What a device that is told to fail does, as a step of a tape and as a call of a reel.
use Rattle.tape.proofs.Words.{List, ◌≡◌, ◌≢◌, ◌⊎◌, ℕ, ◌≤◌, [], ◌∷◌, inl, inr, take, replicate, min, zero, suc, refl, sym, ◌∙◌, arith, length-replicate, take-replicate, take_all, take_min, min-le_right, PlainEntry, Tape, TapeRequest, TapeAnswer, IsCutShort, TapeStep, tape, Record, Mark, Write, WriteMarks, Fault, left_by, DeviceStep, TroubledTape, TroubledStep, IsTroubledCall, Device, Trouble}
use Rattle.tape.specs.declared.trouble.Trouble.TheVariants.{None}
use Rattle.tape.proofs.Calls.{can_of}

-- the place and the entries before it stay, and from it on are the old entries or the first of these
abbrev pub HasFirst : Tape → List PlainEntry → Tape → Type 0
HasFirst t written u = (u.before ≡ t.before) × ((u.after ≡ t.after) ⊎ ((n : ℕ) × (u.after ≡ take n written)))

-- of one record nothing is left or all
pub record_short : (t u : Tape) (e : PlainEntry) → HasFirst t (e ∷ []) u → IsCutShort t (e ∷ []) u
record_short t u e (front, inl same) = (front, inl same)
record_short t u e (front, inr (zero, is)) = (front, inr (inl is))
record_short t u e (front, inr (suc n, is)) = (front, inr (inr (is ∙ take_all (suc n) (e ∷ []) (omega arith))))

-- of some marks so many are left, and no more than there were
pub marks_short : (t u : Tape) (count : ℕ) → HasFirst t (replicate count Mark) u → (some : ℕ) × (some ≤ count) × IsCutShort t (replicate some Mark) u
marks_short t u count (front, inl same) = (0, omega arith, (front, inl same))
marks_short t u count (front, inr (n, is)) =
    let first = take-replicate (min n count) count Mark (min-le_right n count) in
    (min n count, min-le_right n count, (front, inr (inr (grind (arith, take_min n (replicate count Mark), length-replicate count Mark)))))

-- what a device leaves that is told to fail
left_first : (trouble : Trouble) (t u : Tape) (written : List PlainEntry) → trouble ≢ None → u ≡ tape t.before (left_by trouble t.after written)
    → HasFirst t written u
left_first trouble t u written set is = grind arith

-- a failed call is a step of the tape
failed_step : (capacity : ℕ) (trouble : Trouble) (t : Tape) (request : TapeRequest) (u : Tape) → DeviceStep capacity trouble t request (Fault Device) u
    → TapeStep capacity t request (Fault Device) u
failed_step capacity trouble t (Write bytes) u step = (step.1, record_short t u (Record bytes) (left_first trouble t u (Record bytes ∷ []) step.0 step.2))
failed_step capacity trouble t (WriteMarks count) u step =
    (step.1.0, step.1.1, marks_short t u count (left_first trouble t u (replicate count Mark) step.0 step.2))
failed_step capacity trouble t request u step = grind arith

-- each call is a step of the tape
pub tape_step : (capacity : ℕ) (trouble : Trouble) (t : Tape) (request : TapeRequest) (answer : TapeAnswer) (u : Tape)
    → DeviceStep capacity trouble t request answer u → TapeStep capacity t request answer u
tape_step capacity trouble t request answer u step = grind (arith, failed_step capacity trouble t request u)

-- with no trouble the device does not fail
pub untroubled : (capacity : ℕ) (t : Tape) (request : TapeRequest) (answer : TapeAnswer) (u : Tape) → DeviceStep capacity None t request answer u
    → answer ≢ Fault Device
untroubled capacity t request answer u step is = grind arith

-- a step of a reel with trouble is a call of a reel
pub troubled_call : (old new : TroubledTape) (request : TapeRequest) (answer : TapeAnswer) → TroubledStep old new request answer
    → IsTroubledCall old new request answer
troubled_call old new request answer step =
    let counts = step.counted in
    let tape_is = tape_step old.capacity old.trouble old.tape request answer new.tape step.step in
    record {
      step = λ t held. (new.tape, refl, rw (sym held) tape_is);
      can = can_of old.capacity old.tape new.tape request answer tape_is;
      device = λ is. grind arith;
      failed = grind arith;
      able = λ is none. untroubled old.capacity old.tape request answer new.tape (rw none at step.step) is;
      quiet = λ set none. grind arith;
      memory = λ _. refl;
      counted = grind arith;
      same_capacity = step.same_capacity;
      made = step;
    }
