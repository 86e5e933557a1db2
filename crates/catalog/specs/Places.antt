-- The places of a catalog's lines, sorted by keys of their dumps. No public contract needs it.
use Rattle.std.specs.Prelude.{◌≡◌, ℕ, ◌+◌, ◌*◌, ◌%◌, ◌^◌, ◌<◌, ◌≤◌, List, All, Contains, Option, Some, None, get_or, length}
use Rattle.std.specs.List.{fold}
use Rattle.std.specs.List.Sorted.{IsNonDecreasingBy}
use Rattle.dump_run.specs.DumpId.{PlainId}
use Rattle.catalog.specs.Line.{line_id}
use Rattle.catalog.specs.declared.line.CatalogLine.{CatalogLine}
use Rattle.catalog.specs.declared.place.Place.{Place}

-- a key with one more number mixed in
unfoldable pub mixed : ℕ → ℕ → ℕ
mixed key n = (key * 1099511628211 % 2 ^ 64 + n) % 2 ^ 64

-- the key of a dump
unfoldable pub key_of : PlainId → ℕ
key_of id = fold mixed (mixed (mixed (mixed 0 id.level) id.date) id.since) id.name

-- a place, made of its key and the index of its line
abbrev pub place : ℕ → ℕ → Place
place key at = record { key = key; at = at }

-- the places of the first n lines, in their order
abbrev pub AreInOrder : List CatalogLine → List Place → ℕ → Type 0
AreInOrder lines places n =
    All (λ p. p.at < 2 ^ 64) places
    × (length places ≡ n)
    × ((k : ℕ) (l : CatalogLine) (d : Place) → k < n → get_or places k d ≡ place (key_of (line_id (get_or lines k l))) k)

-- the places of all lines, in any order
abbrev pub HasPlaces : List CatalogLine → List Place → Type 0
HasPlaces lines places = (at : ℕ) (l : CatalogLine) → at < length lines → Contains places (place (key_of (line_id (get_or lines at l))) at)

-- places of one key are in the order of their lines
abbrev pub RiseInKeys : List Place → Type 0
RiseInKeys places =
    (i j : ℕ) (d : Place) → i ≤ j → j < length places → (get_or places i d).key ≡ (get_or places j d).key → (get_or places i d).at ≤ (get_or places j d).at

-- the places of all lines, sorted by key, and those of one key by their lines
abbrev pub ArePlaces : List CatalogLine → List Place → Type 0
ArePlaces lines places = IsNonDecreasingBy (λ p. p.key) places × RiseInKeys places × HasPlaces lines places

-- `from` is the index of the first place whose key is not below `key`, or the number of places if
-- there is none
abbrev pub IsFirstFrom : List Place → ℕ → ℕ → Type 0
IsFirstFrom places key from =
    (from ≤ length places) × ((i : ℕ) (d : Place) → i < from → (get_or places i d).key < key)
    × ((i : ℕ) (d : Place) → from ≤ i → i < length places → key ≤ (get_or places i d).key)

-- `to` is the index of the first place whose key is above `key`, or the number of places if there
-- is none
abbrev pub IsFirstAbove : List Place → ℕ → ℕ → Type 0
IsFirstAbove places key to =
    (to ≤ length places) × ((i : ℕ) (d : Place) → i < to → (get_or places i d).key ≤ key)
    × ((i : ℕ) (d : Place) → to ≤ i → i < length places → key < (get_or places i d).key)

-- The places are in the order of their lines. Each line of the dump has a place. The first of
-- `lines` has the index `base`.
abbrev pub HasLinesOf : List CatalogLine → ℕ → List Place → PlainId → Type 0
HasLinesOf lines base places id =
    IsNonDecreasingBy (λ p. p.at) places
    × ((k : ℕ) (l : CatalogLine) → k < length lines → line_id (get_or lines k l) ≡ id
    → ((j : ℕ) (d : Place) → j < length places → (get_or places j d).at ≡ base + k → ⊥) → ⊥)

-- the line with the index `at` in the catalog has this index among `len` lines, the first of which
-- has the index `base`, or it is none of them
abbrev pub FindsIndex : ℕ → ℕ → ℕ → Option ℕ → Type 0
FindsIndex len base at None = (k : ℕ) → k < len → at ≡ base + k → ⊥
FindsIndex len base at (Some index) = (index < len) × (at ≡ base + index)
