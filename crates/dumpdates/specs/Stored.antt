-- The plain values of entries in memory. A plain value is what contracts use for a value that the
-- code has in memory. Public contracts cite it.
use Rattle.std.specs.Prelude.{Bool, not, List, map, string_bytes}
use Rattle.dumpdates.specs.Entry.{DatesEntry}
use Rattle.dumpdates.specs.Dates.{is_same}
use Rattle.dumpdates.specs.declared.entry.Entry.{Entry}
use Rattle.dumpdates.specs.declared.stored.Stored.{Stored}

-- the plain value of an entry that lends its name
abbrev pub plain_entry : Entry → DatesEntry
plain_entry e = record { name = e.name.now; level = e.level; date = e.date }

-- the plain value of an entry that owns its name
abbrev pub plain_stored : Stored → DatesEntry
plain_stored e = record { name = string_bytes e.name; level = e.level; date = e.date }

-- the plain values of a list of entries
abbrev pub plain_all : List Stored → List DatesEntry
plain_all entries = map plain_stored entries

-- the stored entry has another name or level
abbrev pub is_other : DatesEntry → Stored → Bool
is_other e s = not (is_same e (plain_stored s))
