-- The rule that holds between any two atomic steps on the table, and one step under it. The word of
-- a drive is the number of the seat that holds it, or 0 if none does. Public contracts cite it.
use Rattle.std.specs.Prelude.{◌≡◌, ◌⊎◌, ℕ, ◌+◌, ◌-◌, ◌^◌, ◌<◌, ◌≤◌, min, true, false, IsTrue, List, length, slice_index, slice_set}
use mathlib.Core.Option.{some}
use lib.ListN.{get_elem?}
use Rattle.hold_table.specs.declared.table.TheConstants.{SEAT_LIMIT}
use Rattle.drives.specs.declared.view.View.{View}
use Rattle.drives.specs.Holding.{has}
use Rattle.hold_table.specs.declared.rule.Seated.{Seated}

-- what the table knows about a seat: what the seat knows, how many steps it has made, and how many
-- numbers it may pass on
abbrev pub seated : View → ℕ → ℕ → Seated
seated v made spare = record { view = v; made = made; spare = spare }

-- no seat holds drive d
abbrev pub HasNoHolder : List Seated → ℕ → Type 0
HasNoHolder seats d = (k : ℕ) (x : Seated) → get_elem? seats k ≡ some x → has x.view d ≡ false

-- one of `seats` has the number `n`
abbrev pub IsSeated : List Seated → ℕ → Type 0
IsSeated seats n = (k : ℕ) × (x : Seated) × (get_elem? seats k ≡ some x) × (x.view.number ≡ n)

-- the seat holds drive d if and only if its number is n
abbrev pub HoldsAs : ℕ → ℕ → Seated → Type 0
HoldsAs n d x = (x.view.number ≡ n → has x.view d ≡ true) × (has x.view d ≡ true → x.view.number ≡ n)

-- the seat numbered n, and no other, holds drive d
abbrev pub HasOneHolder : List Seated → ℕ → ℕ → Type 0
HasOneHolder seats n d = IsSeated seats n × ((k : ℕ) (x : Seated) → get_elem? seats k ≡ some x → HoldsAs n d x)

-- n is 0 and no seat holds drive d, or the seat numbered n, and no other, holds it
abbrev pub IsHolder : List Seated → ℕ → ℕ → Type 0
IsHolder seats d n = ((n ≡ 0) × HasNoHolder seats d) ⊎ HasOneHolder seats n d

-- the seat at index k holds drive d
abbrev pub IsHeldAt : List Seated → ℕ → ℕ → Type 0
IsHeldAt seats k d = (x : Seated) × (get_elem? seats k ≡ some x) × IsTrue (has x.view d)

-- The hold rule, for the words of the drives and all seats.
pub record HoldRule (words : List ℕ) (seats : List Seated) : Type 0 where
  -- the numbers of the seats are from 1 to SEAT_LIMIT and distinct
  pub ranged : (k : ℕ) (x : Seated) → get_elem? seats k ≡ some x → (1 ≤ x.view.number) × (x.view.number ≤ SEAT_LIMIT)
  pub distinct : (j k : ℕ) (x y : Seated) → get_elem? seats j ≡ some x → get_elem? seats k ≡ some y
      → x.view.number ≡ y.view.number → j ≡ k
  -- each word is the number of the seat that holds the drive, or 0 if none does
  pub held : (d : ℕ) → d < length words → IsHolder seats d (slice_index words d)
  -- a seat shows how many steps it has made, up to the greatest u64
  pub shown : (k : ℕ) (x : Seated) → get_elem? seats k ≡ some x → x.view.steps ≡ min x.made (2 ^ 64 - 1)

-- One atomic step on the word of drive d, by a seat that knew `old` after `made` steps. It finds
-- `found` there and leaves `left` there, and the seat then knows `new`. It changes no other word
-- and no other seat. The hold rule holds before and after it.
pub record IsRuledStep (d : ℕ) (old : View) (made found left : ℕ) (new : View) : Type 0 where
  pub words : List ℕ
  pub seats : List Seated
  pub place : ℕ
  pub spare : ℕ
  pub inside : d < length words
  pub before : HoldRule words seats
  pub at : get_elem? seats place ≡ some (seated old made spare)
  pub finds : slice_index words d ≡ found
  pub after : HoldRule (slice_set words d left) (slice_set seats place (seated new (made + 1) spare))
