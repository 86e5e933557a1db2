-- The seats of a new table.
use Rattle.std.proofs.lemmas.List.Elements.{All-nil, All-push}
use Rattle.drives.proofs.Seats.{HoldsJust_newcomer}
use Rattle.hold_table.proofs.Names.{◌≡◌, ℕ, zero, suc, ◌+◌, ◌≤◌, List, [], All, None, refl, sym, subst, arith, TableId, SEAT_LIMIT, newcomer, HoldsJust, TableSeat, table_seat, dealt, IsSeatAt}

module _ (t : TableId) (P : TableSeat → Type 0) (each : (n : ℕ) → n + 1 ≤ SEAT_LIMIT → P (table_seat t (newcomer (n + 1)) 0)) where
  first_seats : (n : ℕ) → n ≤ SEAT_LIMIT → All P (dealt t n)
  first_seats zero few = All-nil P
  first_seats (suc n) few = All-push P (dealt t n) (table_seat t (newcomer (n + 1)) 0) (first_seats n (omega arith)) (each n (omega arith))

  all_seats : (seats : List TableSeat) → seats ≡ dealt t SEAT_LIMIT → All P seats
  all_seats seats is = subst (λ all. All P all) (sym is) (first_seats SEAT_LIMIT (omega arith))

pub dealt_idle : (t : TableId) (seats : List TableSeat) → seats ≡ dealt t SEAT_LIMIT → All (λ (s : TableSeat). IsSeatAt t s × HoldsJust s.view None) seats
dealt_idle t = all_seats t (λ s. IsSeatAt t s × HoldsJust s.view None)
    (λ n few. (record { same = refl; numbered = omega arith; dealt = omega arith }, HoldsJust_newcomer (n + 1)))

pub dealt_lone : (t : TableId) (seats : List TableSeat) → seats ≡ dealt t SEAT_LIMIT → All (λ (s : TableSeat). s.beside ≡ []) seats
dealt_lone t = all_seats t (λ s. s.beside ≡ []) (λ n few. refl)
