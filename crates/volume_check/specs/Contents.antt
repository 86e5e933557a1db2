-- The result of checking a reel: what it holds, how many records and marks, and the bytes after
-- them. Public contracts cite it.
use Rattle.std.specs.Prelude.{◌≡◌, ℕ, ◌-◌, List, length, sum_by}
use Rattle.tape.specs.Tape.{PlainEntry, marks_met}
use Rattle.tape.specs.Tape.PlainEntry.{Record, Mark}
use Rattle.tape.specs.RecordFile.{images_of}
use Rattle.volume_check.specs.Holding.{IsHolding}
use Rattle.volume_check.specs.declared.holding.Holding.{Holding}
use Rattle.volume_check.specs.declared.contents.ReelContents.{ReelContents}

-- 1 for a record, 0 for a mark.
abbrev pub record_count : PlainEntry → ℕ
record_count (Record bytes) = 1
record_count Mark = 0

-- How many records are among these entries.
abbrev pub record_total : List PlainEntry → ℕ
record_total entries = sum_by record_count entries

-- The view of a `ReelTally`: what its entries are, and how many records and marks came.
pub record Tally : Type 0 where
  pub holding : Holding
  pub records : ℕ
  pub marks : ℕ

-- The tally is that of these entries.
pub record IsTally (t : Tally) (entries : List PlainEntry) : Type 0 where
  pub holding : IsHolding t.holding entries
  pub records : t.records ≡ record_total entries
  pub marks : t.marks ≡ marks_met entries

-- The contents are those of these entries, with the length of the file, and how many bytes of it
-- follow the entries.
pub record IsContents (c : ReelContents) (file : List ℕ) (entries : List PlainEntry) : Type 0 where
  pub holding : IsHolding c.holding entries
  pub records : c.records ≡ record_total entries
  pub marks : c.marks ≡ marks_met entries
  pub bytes : c.bytes ≡ length file
  pub tail : c.tail ≡ length file - length (images_of entries)
