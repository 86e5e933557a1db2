-- A reel of tape, and what each call does to it. The operations are those of mtio, their effects
-- are this project's. Public contracts cite it.
use Rattle.std.specs.Prelude.{◌≡◌, ◌⊎◌, ℕ, zero, suc, ◌+◌, ◌-◌, ◌*◌, ◌<◌, ◌≤◌, ◌==◌, if◌then◌else◌, List, [], ◌∷◌, ◌++◌, length, reverse, sum_by, take, drop, replicate, Result, Ok, Err}
use Rattle.rmt_wire.specs.declared.limits.TheConstants.{RECORD_LIMIT}
use Rattle.rmt_wire.specs.declared.mtio.TheConstants.{MTWEOF, MTFSF, MTBSF, MTFSR, MTBSR, MTREW, MTNOP}
use Rattle.tape.specs.declared.fault.TapeFault.{TapeFault}
use Rattle.tape.specs.declared.fault.TapeFault.TheVariants.{Device, Full, EndOrMark, BadOperation, OutOfMemory}

-- An entry of a tape: a record of these bytes, or a mark.
pub data PlainEntry : Type 0 where
  Record : (bytes : List ℕ) → PlainEntry
  Mark : PlainEntry

-- How many bytes of the capacity an entry takes.
abbrev pub size_of : PlainEntry → ℕ
size_of (Record bytes) = length bytes + 8
size_of Mark = 4

-- The offset of a place: the sum of the sizes of the entries before it.
abbrev pub offset_of : List PlainEntry → ℕ
offset_of before = sum_by size_of before

-- The entries before the place, and those after it. The reel's entries are both, one after the
-- other. The place is the number of entries before it.
pub record Tape : Type 0 where
  pub before : List PlainEntry
  pub after : List PlainEntry

-- The tape with these entries before its place, and those after it.
abbrev pub tape : List PlainEntry → List PlainEntry → Tape
tape before after = record { before = before; after = after }

-- All entries of the reel.
abbrev pub entries_of : Tape → List PlainEntry
entries_of t = t.before ++ t.after

-- A record has at least 1 byte, and at most `most`.
abbrev pub IsRecordUpTo : ℕ → List ℕ → Type 0
IsRecordUpTo most bytes = (0 < length bytes) × (length bytes ≤ most)

-- A record has at least 1 byte, and at most `RECORD_LIMIT`.
abbrev pub IsRecord : List ℕ → Type 0
IsRecord bytes = IsRecordUpTo RECORD_LIMIT bytes

-- An entry of a reel: a record of at most `most` bytes, or a mark.
abbrev pub IsEntryUpTo : ℕ → PlainEntry → Type 0
IsEntryUpTo most (Record bytes) = IsRecordUpTo most bytes
IsEntryUpTo most Mark = Unit {0}

-- An entry of a reel: a record of at most `RECORD_LIMIT` bytes, or a mark.
abbrev pub IsTapeEntry : PlainEntry → Type 0
IsTapeEntry entry = IsEntryUpTo RECORD_LIMIT entry

-- A call of a reel, with its arguments.
pub data TapeRequest : Type 0 where
  Write : (bytes : List ℕ) → TapeRequest
  Read : (count : ℕ) → TapeRequest
  -- MTWEOF: that many marks
  WriteMarks : (count : ℕ) → TapeRequest
  -- MTFSF: forward over that many marks
  ForwardFiles : (count : ℕ) → TapeRequest
  -- MTBSF: back over that many marks
  BackFiles : (count : ℕ) → TapeRequest
  -- MTFSR: forward over that many records
  ForwardRecords : (count : ℕ) → TapeRequest
  -- MTBSR: back over that many records
  BackRecords : (count : ℕ) → TapeRequest
  -- MTREW, and the rewind of a close
  Rewind : TapeRequest
  -- MTNOP
  Nothing : TapeRequest
  -- a number that is no operation of a reel
  Unknown : TapeRequest

-- The answer of a call: done, the bytes that a read gave, or an error.
pub data TapeAnswer : Type 0 where
  Done : TapeAnswer
  Gave : (bytes : List ℕ) → TapeAnswer
  Fault : (fault : TapeFault) → TapeAnswer

-- A write that failed halfway. The entries before the place remain. After it are the old entries,
-- none, or what was written.
abbrev pub IsCutShort : Tape → List PlainEntry → Tape → Type 0
IsCutShort t written u = (u.before ≡ t.before) × ((u.after ≡ t.after) ⊎ (u.after ≡ []) ⊎ (u.after ≡ written))

-- The record is at the place, with nothing after it, and the place is after it. It fits if there is
-- room for one mark after it. Without that room the answer is `Full`, whatever the device or
-- memory.
abbrev pub WriteStep : ℕ → List ℕ → Tape → TapeAnswer → Tape → Type 0
WriteStep capacity bytes t Done u = (offset_of t.before + length bytes + 12 ≤ capacity) × (u ≡ tape (t.before ++ Record bytes ∷ []) [])
WriteStep capacity bytes t (Fault Full) u = (capacity < offset_of t.before + length bytes + 12) × (u ≡ t)
WriteStep capacity bytes t (Fault Device) u = (offset_of t.before + length bytes + 12 ≤ capacity) × IsCutShort t (Record bytes ∷ []) u
WriteStep capacity bytes t (Fault OutOfMemory) u = (offset_of t.before + length bytes + 12 ≤ capacity) × (u ≡ t)
WriteStep capacity bytes t _ u = ⊥

-- `count` marks are at the place, with nothing after them, and the place is after them. A count of
-- 0 changes nothing and is `Done`. Without room for all of them the answer is `Full`, whatever the
-- device or memory. If the device fails, any number of them may remain, up to the count.
abbrev pub MarksStep : ℕ → ℕ → Tape → TapeAnswer → Tape → Type 0
MarksStep capacity count t Done u =
    ((count ≡ 0) × (u ≡ t))
    ⊎ ((0 < count) × (offset_of t.before + 4 * count ≤ capacity) × (u ≡ tape (t.before ++ replicate count Mark) []))
MarksStep capacity count t (Fault Full) u = (0 < count) × (capacity < offset_of t.before + 4 * count) × (u ≡ t)
MarksStep capacity count t (Fault Device) u =
    (0 < count) × (offset_of t.before + 4 * count ≤ capacity) × ((some : ℕ) × (some ≤ count) × IsCutShort t (replicate some Mark) u)
MarksStep capacity count t (Fault OutOfMemory) u = (0 < count) × (offset_of t.before + 4 * count ≤ capacity) × (u ≡ t)
MarksStep capacity count t _ u = ⊥

-- A read at these entries. It gives the first bytes of a record, and passes it whole. At a mark it
-- gives none, and passes the mark. At the end it gives none, and the place stays.
abbrev pub Passes : ℕ → List PlainEntry → Tape → List ℕ → Tape → Type 0
Passes count [] t bytes u = (bytes ≡ []) × (u ≡ t)
Passes count (Record written ∷ rest) t bytes u = (bytes ≡ take count written) × (u ≡ tape (t.before ++ Record written ∷ []) rest)
Passes count (Mark ∷ rest) t bytes u = (bytes ≡ []) × (u ≡ tape (t.before ++ Mark ∷ []) rest)

-- A read of at most `count` bytes. If the device fails, nothing changes.
abbrev pub ReadStep : ℕ → Tape → TapeAnswer → Tape → Type 0
ReadStep count t (Gave bytes) u = Passes count t.after t bytes u
ReadStep count t (Fault Device) u = u ≡ t
ReadStep count t _ u = ⊥

-- The tape with the same entries as `t`, with `place` of them before its place.
abbrev pub stands_at : ℕ → Tape → Tape
stands_at place t = tape (take place (entries_of t)) (drop place (entries_of t))

-- 1 for a mark, 0 for a record.
abbrev pub mark_count : PlainEntry → ℕ
mark_count (Record bytes) = 0
mark_count Mark = 1

-- How many marks are among these entries.
abbrev pub marks_met : List PlainEntry → ℕ
marks_met way = sum_by mark_count way

-- How many records are among these entries before the first mark.
abbrev pub records_met : List PlainEntry → ℕ
records_met [] = 0
records_met (Record bytes ∷ rest) = 1 + records_met rest
records_met (Mark ∷ rest) = 0

-- How many entries are passed up to the `count`-th mark and with it, or all if there are fewer
-- marks.
abbrev pub passed_for_marks : ℕ → List PlainEntry → ℕ
passed_for_marks zero way = 0
passed_for_marks (suc count) [] = 0
passed_for_marks (suc count) (Record bytes ∷ rest) = 1 + passed_for_marks (suc count) rest
passed_for_marks (suc count) (Mark ∷ rest) = 1 + passed_for_marks count rest

-- How many entries are passed for `count` records. A mark that is met first is passed too, and
-- nothing after it.
abbrev pub passed_for_records : ℕ → List PlainEntry → ℕ
passed_for_records zero way = 0
passed_for_records (suc count) [] = 0
passed_for_records (suc count) (Record bytes ∷ rest) = 1 + passed_for_records count rest
passed_for_records (suc count) (Mark ∷ rest) = 1

-- Spacing by `count`, with `met` marks or records in the way. It moves to `place`. With fewer than
-- the count it moves there too, and the answer is `EndOrMark`. The entries are unchanged. If the
-- device fails, nothing changes. A count of 0 never fails.
abbrev pub SpaceStep : ℕ → ℕ → ℕ → Tape → TapeAnswer → Tape → Type 0
SpaceStep count met place t Done u = (count ≤ met) × (u ≡ stands_at place t)
SpaceStep count met place t (Fault EndOrMark) u = (met < count) × (u ≡ stands_at place t)
SpaceStep count met place t (Fault Device) u = (0 < count) × (u ≡ t)
SpaceStep count met place t _ u = ⊥

-- The place is after the last of `count` marks ahead, or at the end if there are fewer.
abbrev pub ForwardFilesStep : ℕ → Tape → TapeAnswer → Tape → Type 0
ForwardFilesStep count t answer u = SpaceStep count (marks_met t.after) (length t.before + passed_for_marks count t.after) t answer u

-- The place is before the last of `count` marks, counted back, or at the beginning if there are
-- fewer.
abbrev pub BackFilesStep : ℕ → Tape → TapeAnswer → Tape → Type 0
BackFilesStep count t answer u =
    SpaceStep count (marks_met (reverse t.before)) (length t.before - passed_for_marks count (reverse t.before)) t answer u

-- The place is `count` records ahead, or after the mark that was met first, or at the end.
abbrev pub ForwardRecordsStep : ℕ → Tape → TapeAnswer → Tape → Type 0
ForwardRecordsStep count t answer u = SpaceStep count (records_met t.after) (length t.before + passed_for_records count t.after) t answer u

-- The place is `count` records back, or before the mark that was met first, or at the beginning.
abbrev pub BackRecordsStep : ℕ → Tape → TapeAnswer → Tape → Type 0
BackRecordsStep count t answer u =
    SpaceStep count (records_met (reverse t.before)) (length t.before - passed_for_records count (reverse t.before)) t answer u

-- The place is at the beginning.
abbrev pub RewindStep : Tape → TapeAnswer → Tape → Type 0
RewindStep t Done u = u ≡ tape [] (entries_of t)
RewindStep t _ u = ⊥

-- The no-operation of mtio (MTNOP): the answer is `Done`, and nothing changes.
abbrev pub NothingStep : Tape → TapeAnswer → Tape → Type 0
NothingStep t Done u = u ≡ t
NothingStep t _ u = ⊥

-- The answer is `BadOperation`, and nothing changes.
abbrev pub UnknownStep : Tape → TapeAnswer → Tape → Type 0
UnknownStep t (Fault BadOperation) u = u ≡ t
UnknownStep t _ u = ⊥

-- One call on a tape of this capacity: the answer, and the tape after it.
abbrev pub TapeStep : ℕ → Tape → TapeRequest → TapeAnswer → Tape → Type 0
TapeStep capacity t (Write bytes) answer u = WriteStep capacity bytes t answer u
TapeStep capacity t (Read count) answer u = ReadStep count t answer u
TapeStep capacity t (WriteMarks count) answer u = MarksStep capacity count t answer u
TapeStep capacity t (ForwardFiles count) answer u = ForwardFilesStep count t answer u
TapeStep capacity t (BackFiles count) answer u = BackFilesStep count t answer u
TapeStep capacity t (ForwardRecords count) answer u = ForwardRecordsStep count t answer u
TapeStep capacity t (BackRecords count) answer u = BackRecordsStep count t answer u
TapeStep capacity t Rewind answer u = RewindStep t answer u
TapeStep capacity t Nothing answer u = NothingStep t answer u
TapeStep capacity t Unknown answer u = UnknownStep t answer u

-- The request of an operation with this number in mtio.
abbrev pub op_request : ℕ → ℕ → TapeRequest
op_request op count =
    if op == MTWEOF then WriteMarks count
    else if op == MTFSF then ForwardFiles count
    else if op == MTBSF then BackFiles count
    else if op == MTFSR then ForwardRecords count
    else if op == MTBSR then BackRecords count
    else if op == MTREW then Rewind
    else if op == MTNOP then Nothing
    else Unknown

-- The answer of a call that gives no bytes.
abbrev pub done_answer : Result Unit TapeFault → TapeAnswer
done_answer (Ok x) = Done
done_answer (Err fault) = Fault fault

-- The answer of a read into this buffer.
abbrev pub given_answer : Result ℕ TapeFault → List ℕ → TapeAnswer
given_answer (Ok n) into = Gave (take n into)
given_answer (Err fault) into = Fault fault
