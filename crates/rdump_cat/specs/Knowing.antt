-- Which of several catalogs have lines of a dump. Public contracts cite it.
use Rattle.std.specs.Prelude.{◌≡◌, ℕ, ◌<◌, List, [], Any, Option, Some, None, get_or, length}
use Rattle.dump_run.specs.DumpId.{PlainId}
use Rattle.catalog.specs.Line.{line_id}
use Rattle.catalog.specs.declared.line.CatalogLine.{CatalogLine}
use Rattle.rdump_cat.specs.declared.knowing.KnownTwice.{KnownTwice}

-- a line of the catalog is of this dump: it has its name, its level and both of its dates
abbrev pub Knows : PlainId → List CatalogLine → Type 0
Knows id lines = Any (λ l. line_id l ≡ id) lines

-- the catalog with this index has a line of the dump
abbrev pub KnowsAt : List (List CatalogLine) → PlainId → ℕ → Type 0
KnowsAt catalogs id at = (at < length catalogs) × Knows id (get_or catalogs at [])

-- The catalog with this index has a line of the dump, and no other one has. Without an index none
-- has.
abbrev pub IsOnly : List (List CatalogLine) → PlainId → Option ℕ → Type 0
IsOnly catalogs id (Some at) = KnowsAt catalogs id at × ((k : ℕ) → KnowsAt catalogs id k → k ≡ at)
IsOnly catalogs id None = (k : ℕ) → KnowsAt catalogs id k → ⊥

-- two catalogs have a line of the dump
abbrev pub AreTwo : List (List CatalogLine) → PlainId → KnownTwice → Type 0
AreTwo catalogs id two = (two.first < two.second) × KnowsAt catalogs id two.first × KnowsAt catalogs id two.second

-- The catalog with this index is the first that has a line of the dump. No public contract needs it.
abbrev pub IsFirst : List (List CatalogLine) → PlainId → Option ℕ → Type 0
IsFirst catalogs id (Some at) = KnowsAt catalogs id at × ((k : ℕ) → k < at → KnowsAt catalogs id k → ⊥)
IsFirst catalogs id None = (k : ℕ) → KnowsAt catalogs id k → ⊥
