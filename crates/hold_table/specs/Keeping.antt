-- Why each step keeps the hold rule, and what a seat learns from each step. The word of a drive is
-- the number of the seat that holds it, or 0 if none does. A step is a take, a give, or a look,
-- which only reads who holds the drive. No public contract needs it.
use Rattle.std.specs.Prelude.{◌≡◌, ◌≢◌, ◌⊎◌, ◌↔◌, ℕ, ◌+◌, ◌-◌, ◌^◌, ◌<◌, ◌≤◌, min, IsTrue, true, false, ◌==◌, cond, List, [], ◌∷◌, map, length, slice_index, slice_index_or, Some}
use mathlib.Core.Option.{some}
use lib.ListN.{get_elem?}
use Rattle.atomic_table.specs.Table.{Me, Step}
use Rattle.drives.specs.declared.holds.TheConstants.{DRIVE_LIMIT}
use Rattle.hold_table.specs.declared.table.TheConstants.{SEAT_LIMIT}
use Rattle.drives.specs.declared.view.LastStep.{LastStep}
use Rattle.drives.specs.declared.view.View.{View}
use Rattle.drives.specs.Holding.{has, newcomer, taken, given, looked}
use Rattle.hold_table.specs.declared.rule.Seated.{Seated}
use Rattle.hold_table.specs.Rule.{seated, HoldRule, IsRuledStep}
use Rattle.hold_table.specs.Seats.{IsFound, FoundHolder}

-- no seat: the value at an index where a list has none
abbrev pub nobody : Seated
nobody = seated (newcomer 0) 0 0

-- The seats that one seat of `atomic_table` represents: one seat, before its witnesses.
abbrev pub SeatGroup : Type 0
SeatGroup = List Seated

-- the first seat of a group
abbrev pub first_of : SeatGroup → Seated
first_of c = slice_index_or c 0 nobody

-- the seats of a group after its first
abbrev pub others_of : SeatGroup → SeatGroup
others_of [] = []
others_of (x ∷ xs) = xs

-- the second seat of a group
abbrev pub second_of : SeatGroup → Seated
second_of c = first_of (others_of c)

-- what the seats of a group know
abbrev pub group_views : SeatGroup → List View
group_views c = map (λ x. x.view) c

-- a seat of `atomic_table`, which has no slots
abbrev pub AtomicSeat : Type 0
AtomicSeat = Me (Unit {0}) SeatGroup

-- this seat of `atomic_table` represents one seat of the table, and its witnesses
abbrev pub IsLed : AtomicSeat → Type 0
IsLed me = me ≡ (first_of me.0 ∷ others_of me.0, [])

-- a seat after it has passed its spare numbers on
abbrev pub settled : Seated → Seated
settled x = seated x.view x.made 0

-- the new seat to which `x` passes its spare numbers on
abbrev pub following : Seated → Seated
following x = seated (newcomer (x.view.number + 1)) 0 (x.spare - 1)

-- a seat after one more step, when it knows v
abbrev pub stepped : Seated → View → Seated
stepped x v = seated v (x.made + 1) x.spare

-- The seat `x`, at index `k` of `count` seats, has the number `k + 1` and a mark for each drive
-- that a table can have. It shows how many steps it has made. Only the newest seat has numbers left
-- to pass on. A seat that has made no step holds no drive.
pub record IsNumbered (count k : ℕ) (x : Seated) : Type 0 where
  pub number : x.view.number ≡ k + 1
  pub most : x.view.number + x.spare ≤ SEAT_LIMIT
  pub newest : 0 < x.spare → count ≡ k + 1
  pub marks : length x.view.held ≡ DRIVE_LIMIT
  pub shown : x.view.steps ≡ min x.made (2 ^ 64 - 1)
  pub begun : (d : ℕ) → IsTrue (has x.view d) → 1 ≤ x.made

-- n is 0, or the seat numbered n holds drive d or has made two steps or more
abbrev pub WasHeld : List Seated → ℕ → ℕ → Type 0
WasHeld seats d n = (n ≡ 0) ⊎ ((k : ℕ) × (x : Seated) × (get_elem? seats k ≡ some x) × (x.view.number ≡ n) × (IsTrue (has x.view d) ⊎ (2 ≤ x.made)))

-- A seat holds a drive if and only if the drive's word is its number. The number that a seat's last
-- step found was that of a holder, or 0.
pub record IsTableKept (drives : ℕ) (words : List ℕ) (seats : List Seated) : Type 0 where
  pub size : length words ≡ drives
  pub small : drives ≤ DRIVE_LIMIT
  pub few : length seats ≤ SEAT_LIMIT
  pub numbered : (k : ℕ) (x : Seated) → get_elem? seats k ≡ some x → IsNumbered (length seats) k x
  pub known : (d : ℕ) → slice_index words d ≤ length seats
  pub held : (k : ℕ) (x : Seated) (d : ℕ) → get_elem? seats k ≡ some x
      → has x.view d ≡ (slice_index words d == x.view.number)
  pub found : (k : ℕ) (x : Seated) (step : LastStep) → get_elem? seats k ≡ some x → x.view.last ≡ Some step → WasHeld seats step.drive step.found

-- the group at index k of `companies` has the seat x at index j
abbrev pub IsInGroup : List SeatGroup → ℕ → ℕ → Seated → Type 0
IsInGroup companies k j x = (c : SeatGroup) × (get_elem? companies k ≡ some c) × (get_elem? c j ≡ some x)

-- each seat of a group is the one in `seats` with its number, and no number is at two places
pub record AreGrouped (seats : List Seated) (companies : List SeatGroup) : Type 0 where
  pub known : (k j : ℕ) (x : Seated) → IsInGroup companies k j x → get_elem? seats (x.view.number - 1) ≡ some x
  pub once : (k j : ℕ) (x : Seated) (m i : ℕ) (y : Seated) → IsInGroup companies k j x → IsInGroup companies m i y
      → x.view.number ≡ y.view.number → (k ≡ m) × (j ≡ i)

-- what the table keeps between steps: the rule for its words and seats, the hold rule, and which
-- group has which seat
pub record KeepsRule (drives : ℕ) (words : List ℕ) (companies : List SeatGroup) : Type 0 where
  pub seats : List Seated
  pub kept : IsTableKept drives words seats
  pub rule : HoldRule words seats
  pub spread : AreGrouped seats companies

-- after a step by the first seat of a group, that one is x, and the others are as they were
abbrev pub StepsTo : AtomicSeat → AtomicSeat → Seated → Type 0
StepsTo me me' x = IsLed me' × (first_of me'.0 ≡ x) × (others_of me'.0 ≡ others_of me.0)

-- an atomic step that is a take: it found the number `found`, and leaves the seat as `me'`
abbrev pub TakesAt : Step (Unit {0}) → AtomicSeat → ℕ → AtomicSeat → Type 0
TakesAt s me found me' =
    StepsTo me me' (stepped (first_of me.0) (taken (first_of me.0).view s.word found))
    × (found ≤ SEAT_LIMIT)
    × (found ≡ 0 → (has (first_of me.0).view s.word ≡ false) × (has (first_of me'.0).view s.word ≡ true))
    × IsRuledStep s.word (first_of me.0).view (first_of me.0).made found
    (cond (found == 0) (first_of me.0).view.number found) (first_of me'.0).view
    × IsFound found s.word (group_views (first_of me.0 ∷ others_of me.0))

-- an atomic step that is a give: it leaves the seat as `me'`
abbrev pub GivesAt : Step (Unit {0}) → AtomicSeat → ℕ → AtomicSeat → Type 0
GivesAt s me stored me' =
    StepsTo me me' (stepped (first_of me.0) (given (first_of me.0).view s.word))
    × IsRuledStep s.word (first_of me.0).view (first_of me.0).made (first_of me.0).view.number 0 (first_of me'.0).view

-- an atomic step that is a look: it found the number `found`, and leaves the seat as `me'`
abbrev pub LooksAt : Step (Unit {0}) → AtomicSeat → ℕ → AtomicSeat → Type 0
LooksAt s me found me' =
    StepsTo me me' (stepped (first_of me.0) (looked (first_of me.0).view s.word found))
    × (found ≤ SEAT_LIMIT)
    × ((found == (first_of me.0).view.number) ≡ has (first_of me.0).view s.word)
    × IsRuledStep s.word (first_of me.0).view (first_of me.0).made found found (first_of me'.0).view
    × IsFound found s.word (group_views (first_of me.0 ∷ others_of me.0))

-- the number found is that of the seat if and only if the seat holds the drive
abbrev pub FindsAs : ℕ → ℕ → Seated → Type 0
FindsAs found d x = found ≡ x.view.number ↔ IsTrue (has x.view d)

-- The two seats have different numbers and hold no drive in common. What the last step of each
-- found agrees with the other.
abbrev pub AreApart : Seated → Seated → Type 0
AreApart x y =
    (x.view.number ≢ y.view.number)
    × ((d : ℕ) → IsTrue (has x.view d) → IsTrue (has y.view d) → ⊥)
    × FoundHolder x.view y.view y.made
    × FoundHolder y.view x.view x.made

-- A look by a group of two seats that found `found`. It changes neither seat, and shows that they
-- are apart.
abbrev pub ComparesAt : Step (Unit {0}) → AtomicSeat → ℕ → AtomicSeat → Type 0
ComparesAt s me found me' =
    (me' ≡ me)
    × (found ≤ SEAT_LIMIT)
    × FindsAs found s.word (first_of me.0)
    × FindsAs found s.word (second_of me.0)
    × AreApart (first_of me.0) (second_of me.0)

-- a new group represents no seat
abbrev pub EntersAt : Step (Unit {0}) → AtomicSeat → ℕ → AtomicSeat → Type 0
EntersAt s me found me' = me'.0 ≡ []
