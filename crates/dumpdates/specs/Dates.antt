-- How dumpdates is queried and changed (dump(8)). Public contracts cite it.
use Rattle.std.specs.Prelude.{ℕ, max, Bool, ◌&&◌, ◌==◌, not, if◌then◌else◌, nat_lt, List, [], ◌∷◌, map, filter, bytes_eq}
use Rattle.dumpdates.specs.Entry.{DatesEntry}

-- the greatest number of a list, or 0 if the list is empty
abbrev pub greatest : List ℕ → ℕ
greatest [] = 0
greatest (n ∷ ns) = max n (greatest ns)

-- the entry has this name and a lower level
abbrev pub is_below : List ℕ → ℕ → DatesEntry → Bool
is_below name level e = bytes_eq e.name name && nat_lt e.level level

-- the date that a dump is based on: that of the latest dump of the name at a lower level, or 0 if
-- no lower level was dumped
abbrev pub base_of : List DatesEntry → List ℕ → ℕ → ℕ
base_of entries name level = greatest (map (λ e. e.date) (filter (is_below name level) entries))

-- the entries have the same name and level
abbrev pub is_same : DatesEntry → DatesEntry → Bool
is_same e other = bytes_eq other.name e.name && (other.level == e.level)

-- the entries of other names or levels
abbrev pub others : DatesEntry → List DatesEntry → List DatesEntry
others e entries = filter (λ other. not (is_same e other)) entries

-- The new entry replaces the first one with its name and level, and any further ones are removed.
-- If there is no such entry, it is appended.
abbrev pub entered : List DatesEntry → DatesEntry → List DatesEntry
entered [] e = e ∷ []
entered (first ∷ entries) e = if is_same e first then e ∷ others e entries else first ∷ entered entries e
