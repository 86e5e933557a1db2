-- How dumpdates is read, line by line. Public contracts cite it.
use Rattle.std.specs.Prelude.{◌≡◌, ◌⊎◌, ℕ, ◌+◌, ◌==◌, List, [], ◌∷◌, ◌++◌, length}
use Rattle.std.specs.List.{slice_split}
use Rattle.dumpdates.specs.Entry.{DatesEntry}
use Rattle.dumpdates.specs.Line.{AreSpaces, SpellsLine, IsBadLine, IsBadDate}
use Rattle.dumpdates.specs.Text.{line_feed}
use Rattle.dumpdates.specs.declared.fault.DatesFault.{DatesFault}
use Rattle.dumpdates.specs.declared.fault.DatesFault.TheVariants.{BadLine, BadDate, OutOfMemory}

-- the lines of a text, cut at its line feeds; after the last line feed there is one more, which may
-- be empty
abbrev pub lines_of : List ℕ → List (List ℕ)
lines_of bytes = slice_split (λ b. b == line_feed) bytes

-- each line is blank and skipped, or it is the next entry
abbrev pub SpellLines : List (List ℕ) → List DatesEntry → Type 0
SpellLines [] entries = entries ≡ []
SpellLines (line ∷ lines) entries =
    (AreSpaces line × SpellLines lines entries)
    ⊎ ((e : DatesEntry) × (later : List DatesEntry) × SpellsLine line e × (entries ≡ e ∷ later) × SpellLines lines later)

-- the text spells these entries
abbrev pub SpellsDates : List ℕ → List DatesEntry → Type 0
SpellsDates bytes entries = SpellLines (lines_of bytes) entries

-- line n, counted from 1, is of this kind, and all lines before it are blank or entries
pub record IsReached (Kind : List ℕ → Type 0) (bytes : List ℕ) (n : ℕ) : Type 0 where
  pub before : List (List ℕ)
  pub line : List ℕ
  pub after : List (List ℕ)
  pub entries : List DatesEntry
  pub split : lines_of bytes ≡ before ++ line ∷ after
  pub number : n ≡ length before + 1
  pub good : SpellLines before entries
  pub kind : Kind line

-- the line is an entry
abbrev pub IsEntryLine : List ℕ → Type 0
IsEntryLine line = (e : DatesEntry) × SpellsLine line e

-- The text has this fault: the number of its first bad line, and why it is bad. An allocation can
-- fail only for an entry with no bad line before it.
abbrev pub HasDatesFault : List ℕ → DatesFault → Type 0
HasDatesFault bytes (BadLine n) = IsReached IsBadLine bytes n
HasDatesFault bytes (BadDate n) = IsReached IsBadDate bytes n
HasDatesFault bytes OutOfMemory = (n : ℕ) × IsReached IsEntryLine bytes n
