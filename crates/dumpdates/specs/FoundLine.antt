-- The contents of a line, as plain values: the values that contracts use for the types of the code.
-- A word of a line is a row of bytes without spaces and tabs. No public contract needs it.
use Rattle.std.specs.Prelude.{◌≡◌, ◌⊎◌, ◌++◌, [], ◌∷◌, List, ℕ, Option, Some, None, Result, Ok, Err}
use Rattle.dumpdates.specs.Entry.{DatesEntry}
use Rattle.dumpdates.specs.Clock.{plain_moment}
use Rattle.dumpdates.specs.Stored.{plain_entry}
use Rattle.dumpdates.specs.Line.{PlainWords, PlainFields, AreSpaces, SpellsDigits, SpellsMonth, SpellsTime, SpellsLine, IsBadLine, IsBadDate}
use Rattle.dumpdates.specs.Lines.{IsEntryLine}
use Rattle.dumpdates.specs.declared.moment.Moment.{Moment}
use Rattle.dumpdates.specs.declared.words.LineWords.{LineWords}
use Rattle.dumpdates.specs.declared.fields.LineFields.{LineFields}
use Rattle.dumpdates.specs.declared.entry.Entry.{Entry}
use Rattle.dumpdates.specs.declared.line.EntryFault.{EntryFault}
use Rattle.dumpdates.specs.declared.line.EntryFault.TheVariants.{BadShape, NoDate}
use Rattle.dumpdates.specs.declared.fault.DatesFault.{DatesFault}
use Rattle.dumpdates.specs.declared.fault.DatesFault.TheVariants.{BadLine, BadDate, OutOfMemory}

-- the plain values of a line's words
abbrev pub plain_words : LineWords → PlainWords
plain_words w = record {
  name = w.name.now;
  level = w.level.now;
  weekday = w.weekday.now;
  month = w.month.now;
  day = w.day.now;
  time = w.time.now;
  year = w.year.now;
}

-- The name, the level and the time that the words of a line spell, as a plain value.
abbrev pub plain_fields : LineFields → PlainFields
plain_fields f = record { name = f.name.now; level = f.level; moment = plain_moment f.moment }

-- the words of a date spell this moment, which need not be valid
abbrev pub SpellsMoment : PlainWords → Moment → Type 0
SpellsMoment w m =
    SpellsMonth w.month m.month × SpellsDigits 1 2 w.day m.day × SpellsTime w.time m.hour m.minute m.second × SpellsDigits 4 4 w.year m.year

-- the line is blank, or this entry, or bad in this way
abbrev pub IsLineFound : List ℕ → Result (Option Entry) EntryFault → Type 0
IsLineFound line (Ok None) = AreSpaces line
IsLineFound line (Ok (Some entry)) = SpellsLine line (plain_entry entry)
IsLineFound line (Err BadShape) = IsBadLine line
IsLineFound line (Err NoDate) = IsBadDate line

-- `now` are the entries `before`, once the line was read: the same if it is blank, or with its
-- entry at the end
abbrev pub IsAdded : List ℕ → List DatesEntry → List DatesEntry → Type 0
IsAdded line before now = (AreSpaces line × (now ≡ before)) ⊎ ((e : DatesEntry) × SpellsLine line e × (now ≡ before ++ e ∷ []))

-- why line n was not read: it is bad, or it is an entry for which an allocation failed
abbrev pub IsLineRefused : List ℕ → ℕ → DatesFault → Type 0
IsLineRefused line n (BadLine k) = (k ≡ n) × IsBadLine line
IsLineRefused line n (BadDate k) = (k ≡ n) × IsBadDate line
IsLineRefused line n OutOfMemory = IsEntryLine line
