-- What the parts of a reel on a medium do to the medium, and to the tape that its bytes spell. The
-- contracts of `next_length` and `entry_size` cite `LooksAlong`, `AreMediumCalls`, `first_length`
-- and `size_by_length`. No other public contract needs it. `m` has the promises of the kind of
-- medium, and `t` is a tape.
use Rattle.std.specs.Prelude.{◌≡◌, ◌⊎◌, ◌==◌, if◌then◌else◌, ℕ, ◌+◌, ◌-◌, ◌^◌, ◌<◌, ◌≤◌, Bool, List, [], ◌∷◌, ◌++◌, length, reverse, take, Option, Some, None, MatchOption, Result, IsErr, IfOk, MatchResult}
use Rattle.tape.specs.Failures.{HasRisen, Steps}
use Rattle.tape.specs.Tape.{PlainEntry, Tape, TapeRequest, entries_of, tape, stands_at, mark_count, marks_met, records_met, passed_for_marks, passed_for_records}
use Rattle.tape.specs.Tape.TapeRequest.{ForwardFiles, BackFiles, ForwardRecords, BackRecords}
use Rattle.tape.specs.List.{bytes_of}
use Rattle.tape.specs.Medium.{MediumKind}
use Rattle.tape.specs.RecordFile.{length_bytes, IsFile, FileTape, HoldsTape}
use Rattle.tape.specs.declared.fault.TapeFault.{TapeFault}
use Rattle.tape.specs.declared.medium.MediumFailed.{MediumFailed}
use Rattle.tape.specs.declared.file_reel.walk.PassedEntry.{PassedEntry}
use Rattle.tape.specs.declared.file_reel.walk.Walked.{Walked}
use Rattle.tape.specs.declared.file_reel.walk.Way.{Way}
use Rattle.tape.specs.declared.file_reel.walk.Way.TheVariants.{Forward, Back}

-- Calls of a medium in a row. `does` relates the bytes before and after. At most `added` bytes are
-- added. `fails` says whether the last call failed; no call follows a failed one.
pub record AreMediumCalls {S : Type 0} (m : MediumKind S) (does : List ℕ → List ℕ → Type 0) (added : ℕ) (fails : Type 0) (old new : S) : Type 0 where
  pub step : Steps m.holds old new does
  pub failed : fails → HasRisen (m.failures old) (m.failures new)
  pub same : (m.failures new ≡ m.failures old) ⊎ fails
  pub counted : m.failures old ≤ m.failures new
  pub able : fails → m.can_fail old ⊎ (m.spare old < added)
  pub quiet : m.can_fail new → m.can_fail old
  pub room : m.spare old ≤ m.spare new + added

-- Calls of a medium that change nothing. Their result fits each tape that the bytes spell with its
-- place at this offset.
abbrev pub LooksAlong : {A S : Type 0} → MediumKind S → ℕ → Result A MediumFailed → (List ℕ → Tape → A → Type 0) → S → S → Type 0
LooksAlong m at result tells old new =
    AreMediumCalls m (λ bytes left. (left ≡ bytes) × IfOk result (λ answer. (t : Tape) → IsFile bytes at t → tells bytes t answer)) 0 (IsErr result) old new

-- Calls of the medium of a reel, in a row. `does` relates the reel's tape before and after. At most
-- `added` bytes are added. `fails` says whether the last call failed; no call follows a failed one.
pub record AreReelCalls {M : Type 0} (m : MediumKind M) (does : Tape → Tape → Type 0) (added : ℕ) (fails : Type 0)
    (old new : FileTape M) : Type 0 where
  pub step : Steps (HoldsTape m.holds) old new does
  pub calls : AreMediumCalls m (λ _ _. Unit {0}) added fails old.medium new.medium
  pub same_capacity : new.capacity ≡ old.capacity

-- The length that the bytes begin with, if there are at least 4 bytes.
abbrev pub BeginsWith : List ℕ → Option ℕ → Type 0
BeginsWith bytes None = length bytes < 4
BeginsWith bytes (Some n) = (n < 2 ^ 32) × ((rest : List ℕ) × (bytes ≡ length_bytes n ++ rest))

-- How many bytes an entry of this length takes. A mark has the length 0.
abbrev pub size_by_length : ℕ → ℕ
size_by_length n = if n == 0 then 4 else n + 8

-- The length of the first entry, 0 for a mark, if there is an entry.
abbrev pub first_length : List PlainEntry → Option ℕ
first_length [] = None
first_length (e ∷ es) = Some (length (bytes_of e))

-- The entries from the place on, in this direction.
abbrev pub ahead : Way → Tape → List PlainEntry
ahead Forward t = t.after
ahead Back t = reverse t.before

-- The number of the place after passing so many entries in this direction.
abbrev pub place_after : Way → ℕ → Tape → ℕ
place_after Forward count t = length t.before + count
place_after Back count t = length t.before - count

-- A bound on how far a walk can go from an offset.
abbrev pub way_left : Way → ℕ → ℕ
way_left Forward at = 2 ^ 64 - at
way_left Back at = at

-- One entry in the direction `way` was passed, and `is_mark` says whether it is a mark. `u` is the
-- tape afterwards.
pub record IsPassed (way : Way) (t : Tape) (is_mark : Bool) (u : Tape) : Type 0 where
  pub entry : PlainEntry
  pub mark : mark_count entry ≡ (if is_mark then 1 else 0)
  pub way_is : ahead way t ≡ entry ∷ ahead way u
  pub same : entries_of u ≡ entries_of t
  pub place : (count : ℕ) → place_after way (1 + count) t ≡ place_after way count u

-- The next entry in this direction was passed, if there was one.
abbrev pub HasPassed : Way → List ℕ → Tape → Option PassedEntry → Type 0
HasPassed way bytes t passed =
    MatchOption passed (ahead way t ≡ []) (λ p. (u : Tape) × IsFile bytes p.at u × IsPassed way t p.is_mark u)

-- A walk passed `passed` entries and ended at offset `at`. `met` is how many marks or records there
-- were in its way. `left` is the part of the count for which there were none.
pub record IsWalked (way : Way) (count met passed : ℕ) (bytes : List ℕ) (t : Tape) (at left : ℕ) : Type 0 where
  pub to : Tape
  pub file : IsFile bytes at to
  pub place : to ≡ stands_at (place_after way passed t) t
  pub left_is : left ≡ count - met

-- A walk past `count` marks, or as far as there are entries, was made. `walked` has the offset
-- where it ended and how many of the `count` marks were missing.
abbrev pub HasWalkedMarks : Way → ℕ → List ℕ → Tape → Walked → Type 0
HasWalkedMarks way count bytes t walked =
    IsWalked way count (marks_met (ahead way t)) (passed_for_marks count (ahead way t)) bytes t walked.at walked.left

-- A walk past `count` records, or up to the first mark or the last entry, was made. `walked` has
-- the offset where it ended and how many of the `count` records were missing.
abbrev pub HasWalkedRecords : Way → ℕ → List ℕ → Tape → Walked → Type 0
HasWalkedRecords way count bytes t walked =
    IsWalked way count (records_met (ahead way t)) (passed_for_records count (ahead way t)) bytes t walked.at walked.left

-- These bytes are from the offset on, with nothing after them. If the medium failed, the bytes are
-- unchanged, or from the offset on is only a first part of these bytes.
abbrev pub IsImageWritten : ℕ → List ℕ → Result Unit MediumFailed → List ℕ → List ℕ → Type 0
IsImageWritten at image result old new =
    MatchResult result (λ _. new ≡ take at old ++ image)
    (λ _. (new ≡ old) ⊎ ((n : ℕ) × (new ≡ take at old ++ take n image)))

-- These entries are at the place, with nothing after them, and the place is after them. If the
-- medium failed, the place and what is before it are unchanged. From it on are the old entries, or
-- a first part of the new ones.
abbrev pub PutsEntries : List PlainEntry → Result Unit TapeFault → Tape → Tape → Type 0
PutsEntries written result t u =
    MatchResult result (λ _. u ≡ tape (t.before ++ written) [])
    (λ _. (u.before ≡ t.before) × ((u.after ≡ t.after) ⊎ ((n : ℕ) × (u.after ≡ take n written))))

-- The request to pass so many marks in this direction.
abbrev pub files_request : Way → ℕ → TapeRequest
files_request Forward count = ForwardFiles count
files_request Back count = BackFiles count

-- The request to pass so many records in this direction.
abbrev pub records_request : Way → ℕ → TapeRequest
records_request Forward count = ForwardRecords count
records_request Back count = BackRecords count
