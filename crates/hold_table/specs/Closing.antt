-- What the words of a closed table say about the seats that were given back. The word of a drive is
-- the number of the seat that holds it, or 0 if none does. Public contracts cite it.
use Rattle.std.specs.Prelude.{◌≡◌, ℕ, ◌≤◌, ◌↔◌, false, IsTrue, List, length, slice_index}
use mathlib.Core.Option.{some}
use lib.ListN.{get_elem?}
use Rattle.hold_table.specs.declared.table.TheConstants.{SEAT_LIMIT}
use Rattle.drives.specs.Holding.{has}
use Rattle.hold_table.specs.Seats.{TableSeat}

-- the words of a closed table agree with what these seats know
pub record IsClosing (words : List ℕ) (seats : List TableSeat) : Type 0 where
  -- no two of the seats have the same number
  pub distinct : (j k : ℕ) (x y : TableSeat) → get_elem? seats j ≡ some x → get_elem? seats k ≡ some y
      → x.view.number ≡ y.view.number → j ≡ k
  -- a word is 0 or a seat's number
  pub known : (d : ℕ) → slice_index words d ≤ SEAT_LIMIT
  -- the word of a drive is a seat's number if and only if the seat holds the drive
  pub held : (k : ℕ) (x : TableSeat) (d : ℕ) → get_elem? seats k ≡ some x → slice_index words d ≡ x.view.number ↔ IsTrue (has x.view d)
  -- if all seats of the table were given back, and none holds a drive, its word is 0
  pub free : (d : ℕ) → length seats ≡ SEAT_LIMIT → ((k : ℕ) (x : TableSeat) → get_elem? seats k ≡ some x → has x.view d ≡ false)
      → slice_index words d ≡ 0
