-- A reel in memory: its view, and what `entry` returns of its entries. Public contracts cite it.
use Rattle.std.specs.Prelude.{◌≡◌, ℕ, List, [], ◌++◌, length, take, drop, map, true, Option, Some, None}
use Rattle.std.specs.List.{slice_get}
use Rattle.std.specs.Option.{option_map}
use Rattle.tape.specs.Tape.{PlainEntry, Tape, TapeRequest, TapeAnswer, entries_of}
use Rattle.tape.specs.Tape.PlainEntry.{Record, Mark}
use Rattle.tape.specs.Call.{IsTapeCall, ReelKind, reel_kind}
use Rattle.tape.specs.Media.{MemoryBytes, IsMemory}
use Rattle.tape.specs.RecordFile.{FileTape, HoldsTape, tape_in}
use Rattle.tape.specs.declared.entry.Entry.{Entry}
use Rattle.tape.specs.declared.entry.Entry.TheVariants as entry

-- The view of a reel in memory: its tape, and its capacity in bytes.
pub record ListTape : Type 0 where
  pub tape : Tape
  pub capacity : ℕ

-- The view of a record file in memory: the tape of its bytes, with the place at its offset.
abbrev pub list_view : FileTape MemoryBytes → ListTape
list_view r = record { tape = tape_in r.offset r.medium.bytes; capacity = r.capacity }

-- The bytes of the record file spell the tape of its view, and its offset is the place.
abbrev pub IsListView : FileTape MemoryBytes → Type 0
IsListView r = HoldsTape IsMemory r (list_view r).tape

-- The tape of a reel in memory is always known.
abbrev pub IsTape : ListTape → Tape → Type 0
IsTape reel t = reel.tape ≡ t

-- The promises of a reel in memory: its device never fails, and a call can allocate.
abbrev pub list_kind : ReelKind ListTape
list_kind = reel_kind IsTape (λ r. r.capacity) (λ _. 0) (λ _. ⊥) (λ _ _ _ _. Unit {0}) true

-- A call of a reel in memory.
abbrev pub IsListCall : ListTape → ListTape → TapeRequest → TapeAnswer → Type 0
IsListCall old new request answer = IsTapeCall list_kind old new request answer

-- An entry with its bytes as a list.
abbrev pub plain_of : Entry → PlainEntry
plain_of (entry.Record bytes) = Record bytes.items
plain_of entry.Mark = Mark

-- The entries with their bytes as lists, in order.
abbrev pub plain_entries : List Entry → List PlainEntry
plain_entries entries = map plain_of entries

-- The bytes that a read finds: none at a mark.
abbrev pub bytes_of : PlainEntry → List ℕ
bytes_of (Record bytes) = bytes
bytes_of Mark = []

-- The entry of this number, counted from 0, if there is one.
abbrev pub entry_at : ℕ → Tape → Option PlainEntry
entry_at i t = slice_get (entries_of t) i

-- The length that `entry` returns for it: that of a record, and 0 for a mark.
abbrev pub entry_length : Option PlainEntry → Option ℕ
entry_length entry = option_map (λ e. length (bytes_of e)) entry

-- The bytes that `entry` copies of it: those of a record.
abbrev pub entry_bytes : Option PlainEntry → List ℕ
entry_bytes None = []
entry_bytes (Some e) = bytes_of e

-- The first of the bytes, as many as fit, replace the front of `into`. The rest of `into` remains.
abbrev pub with_front : List ℕ → List ℕ → List ℕ
with_front bytes into = take (length into) bytes ++ drop (length bytes) into
