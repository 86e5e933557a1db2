-- Dates with their UTC text in brackets. Public contracts cite it.
use Rattle.std.specs.Prelude.{ℕ, List, ◌++◌, codes, decimal, if◌then◌else◌, nat_eq, nat_le}
use Rattle.dumpdates.specs.Entry.{last_second}
use Rattle.dumpdates.specs.Text.{utc_text}
use Rattle.dump_run.specs.DumpId.{PlainId}
use Rattle.dump_run.specs.Label.{PlainLabel, id_of}

-- a date in UTC in brackets, and nothing for a date after the year 9999
abbrev pub in_brackets : ℕ → List ℕ
in_brackets date = if nat_le date last_second then codes " (" ++ (utc_text date ++ codes ")") else codes ""

-- a text, a date in decimal, and the date in UTC in brackets
abbrev pub dated : List ℕ → ℕ → List ℕ
dated before date = before ++ (decimal date ++ in_brackets date)

-- a base date; 0 is none
abbrev pub dated_since : ℕ → List ℕ
dated_since since = if nat_eq since 0 then codes " since 0" else dated (codes " since ") since

-- the name, the level and the dates of a dump
abbrev pub dated_id : PlainId → List ℕ
dated_id d = d.name ++ (codes " level " ++ (decimal d.level ++ (dated (codes " date ") d.date ++ dated_since d.since)))

-- a volume: its dump, its number and its first block, and the number and the size of its blocks
abbrev pub dated_volume : PlainLabel → ℕ → ℕ → List ℕ
dated_volume label blocks block_bytes =
    dated_id (id_of label) ++ (codes " volume " ++ (decimal label.volume ++ (codes " first " ++ (decimal label.first
    ++ (codes ", " ++ (decimal blocks ++ (codes " blocks of " ++ (decimal block_bytes ++ codes " bytes"))))))))
