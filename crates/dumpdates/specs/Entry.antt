-- The entries of dumpdates (dump(8)): which file system was dumped at which level, and when. Public
-- contracts cite it.
use Rattle.std.specs.Prelude.{ℕ, ◌≤◌, List, length}
use Rattle.std.specs.Int.{IsInRange}
use Rattle.std.specs.List.{AllByRecursion}

-- the name of a file system, the level of its dump, and the date of the dump in seconds since 1970
-- began, UTC
pub record DatesEntry : Type 0 where
  pub name : List ℕ
  pub level : ℕ
  pub date : ℕ

-- the name has 1 to 255 bytes of printable ASCII, none of them a space
abbrev pub IsName : List ℕ → Type 0
IsName name = IsInRange 1 255 (length name) × AllByRecursion (IsInRange 33 126) name

-- the last second of the year 9999
abbrev pub last_second : ℕ
last_second = 253402300799

-- the name, the level and the date are within their limits
pub record IsEntry (e : DatesEntry) : Type 0 where
  pub name : IsName e.name
  pub level : e.level ≤ 9
  pub date : e.date ≤ last_second

-- each entry of the list is within its limits
abbrev pub AreEntries : List DatesEntry → Type 0
AreEntries entries = AllByRecursion IsEntry entries
