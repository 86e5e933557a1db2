-- The record that begins a volume: its run, its number, and its first block. The format is this
-- project's own. Public contracts cite it.
use Rattle.std.specs.Prelude.{◌≡◌, ◌≢◌, ℕ, ◌-◌, ◌≤◌, List, [], ◌∷◌, ◌++◌, codes, length, replicate, decimal, Option, Some, None}
use Rattle.std.specs.Int.{IsInRange}
use Rattle.rmt_wire.specs.Number.{line_feed, space}
use Rattle.dumpdates.specs.Entry.{IsName, last_second}
use Rattle.dump_run.specs.DumpId.{PlainId, plain_id}
use Rattle.dump_run.specs.Run.{PlainRun, plain_run, blocks_limit}

-- a line: a keyword, a space, a text and a line feed
abbrev pub line_of : List ℕ → List ℕ → List ℕ
line_of word text = word ++ space ∷ (text ++ line_feed ∷ [])

-- the lines of the label of volume `volume`, which begins at block `first`
abbrev pub label_lines : PlainRun → ℕ → ℕ → List ℕ
label_lines run volume first =
    line_of (codes "name") run.name
    ++ (line_of (codes "level") (decimal run.level)
    ++ (line_of (codes "date") (decimal run.date)
    ++ (line_of (codes "since") (decimal run.since)
    ++ (line_of (codes "volume") (decimal volume)
    ++ line_of (codes "first") (decimal first)))))

-- the size of a label in bytes
abbrev pub label_bytes : ℕ
label_bytes = 1024

-- the label of a volume: its lines, then zero bytes
abbrev pub label : PlainRun → ℕ → ℕ → List ℕ
label run volume first = let text = label_lines run volume first in text ++ replicate (label_bytes - length text) 0

-- the contents of a label: the name, level and dates of a run, the volume's number, and its first
-- block
pub record PlainLabel : Type 0 where
  pub name : List ℕ
  pub level : ℕ
  pub date : ℕ
  pub since : ℕ
  pub volume : ℕ
  pub first : ℕ

-- makes a `PlainLabel`
abbrev pub plain_label : List ℕ → ℕ → ℕ → ℕ → ℕ → ℕ → PlainLabel
plain_label name level date since volume first =
    record { name = name; level = level; date = date; since = since; volume = volume; first = first }

-- the contents of the label of volume `volume` of the run, which begins at block `first`
abbrev pub label_of : PlainRun → ℕ → ℕ → PlainLabel
label_of run volume first = plain_label run.name run.level run.date run.since volume first

-- the dump that a label belongs to
abbrev pub id_of : PlainLabel → PlainId
id_of l = plain_id l.name l.level l.date l.since

-- the record of these contents: a label has no device, block size or number of blocks
abbrev pub label_record : PlainLabel → List ℕ
label_record l = label (plain_run [] l.name l.level l.date l.since 0 0) l.volume l.first

-- The name and each number are within the limits of a run. Volumes are counted from 1.
pub record IsLabel (l : PlainLabel) : Type 0 where
  pub name : IsName l.name
  pub level : l.level ≤ 9
  pub date : l.date ≤ last_second
  pub since : l.since ≤ last_second
  pub volume : IsInRange 1 blocks_limit l.volume
  pub first : l.first ≤ blocks_limit

-- both labels are of one dump: the name, level and dates are the same
abbrev pub AreLabelsOfOneDump : PlainLabel → PlainLabel → Type 0
AreLabelsOfOneDump l m = (l.name ≡ m.name) × (l.level ≡ m.level) × (l.date ≡ m.date) × (l.since ≡ m.since)

-- the record is the label with these contents, or no label
abbrev pub ReadsLabel : List ℕ → Option PlainLabel → Type 0
ReadsLabel bytes (Some l) = IsLabel l × (bytes ≡ label_record l)
ReadsLabel bytes None = (l : PlainLabel) → IsLabel l → bytes ≢ label_record l
