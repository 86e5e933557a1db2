-- What contracts see of a seat at the table. Public contracts cite it.
use Rattle.std.specs.Prelude.{◌≡◌, ◌⊎◌, ◌↔◌, ℕ, zero, suc, ◌+◌, ◌≤◌, IsTrue, false, List, [], ◌∷◌, ◌++◌, map, length, Some}
use mathlib.Core.Option.{some}
use lib.ListN.{get_elem?}
use Rattle.atomic_table.specs.Seated.{TableId}
use Rattle.hold_table.specs.declared.table.TheConstants.{SEAT_LIMIT}
use Rattle.drives.specs.declared.view.LastStep.{LastStep}
use Rattle.drives.specs.declared.view.View.{View}
use Rattle.drives.specs.Holding.{has, newcomer}
use Rattle.hold_table.specs.declared.rule.Seated.{Seated}

-- A seat: its table, what it knows, how many steps it has made, and its witnesses. A witness is
-- another seat of the table that makes no step while this one does. A seat has no witness, except
-- inside `HoldTable::take_among` and `HoldTable::holder_among`.
pub record TableSeat : Type 0 where
  pub table : TableId
  pub view : View
  pub made : ℕ
  pub beside : List Seated

-- the seat with these parts
abbrev pub seat_beside : TableId → View → ℕ → List Seated → TableSeat
seat_beside table view made beside = record { table = table; view = view; made = made; beside = beside }

-- the seat with these parts and no witness
abbrev pub table_seat : TableId → View → ℕ → TableSeat
table_seat table view made = seat_beside table view made []

-- the seat without its witnesses
abbrev pub lone : TableSeat → TableSeat
lone s = table_seat s.table s.view s.made

-- the seat after one more step, when it knows v
abbrev pub next : TableSeat → View → TableSeat
next s v = seat_beside s.table v (s.made + 1) s.beside

-- what these seats know
abbrev pub views_of : List TableSeat → List View
views_of seats = map (λ s. s.view) seats

-- what a seat, these other seats and the seat's witnesses know
abbrev pub views_among : TableSeat → List TableSeat → List View
views_among s others = s.view ∷ (views_of others ++ map (λ w. w.view) s.beside)

-- the number n, found in the word of drive d, is true of these seats
pub record IsFound (n d : ℕ) (views : List View) : Type 0 where
  -- n is the number of one of these seats if and only if this seat holds the drive
  pub holder : (k : ℕ) (v : View) → get_elem? views k ≡ some v → n ≡ v.number ↔ IsTrue (has v d)
  -- if these are all seats of the table, and none holds the drive, n is 0
  pub free : length views ≡ SEAT_LIMIT → ((k : ℕ) (v : View) → get_elem? views k ≡ some v → has v d ≡ false) → n ≡ 0

-- the first n seats of a new table, in the order of their numbers, from 1
abbrev pub dealt : TableId → ℕ → List TableSeat
dealt t zero = []
dealt t (suc n) = dealt t n ++ table_seat t (newcomer (n + 1)) 0 ∷ []

-- the seat is one of the table's, so its number is from 1 to SEAT_LIMIT
pub record IsSeatAt (t : TableId) (s : TableSeat) : Type 0 where
  pub same : s.table ≡ t
  pub numbered : 1 ≤ s.view.number
  pub dealt : s.view.number ≤ SEAT_LIMIT

-- `v` and `other` are what two seats know. Suppose that the last step of the first found the number
-- of the other. Then the other holds the drive of that step, or has made two steps or more. A seat
-- that took a drive and gave it back has made two.
abbrev pub FoundHolder : View → View → ℕ → Type 0
FoundHolder v other made = (step : LastStep) → v.last ≡ Some step → step.found ≡ other.number → IsTrue (has other step.drive) ⊎ (2 ≤ made)
