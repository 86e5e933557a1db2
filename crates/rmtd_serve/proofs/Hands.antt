-- A seat that comes back from a session at a table's hand is one of the same table.
use Rattle.std.proofs.Common.{◌≡◌, ◌≢◌, ◌⊎◌, ℕ, ◌≤◌, List, Option, None, inl, inr, refl, sym, ap, subst, ◌∙◌, arith}
use Rattle.tape.specs.declared.reel.Reel.{Ghosts as ReelPromise}
use Rattle.drives.specs.declared.stacks.Stacks.{Ghosts as StacksPromise}
use Rattle.drives.specs.Holding.{HoldsJust, newcomer}
use Rattle.drives.specs.Opening.{kinds}
use Rattle.hold_table.specs.declared.hand.TableHand.{TableHand}
use Rattle.hold_table.specs.contracts.hand.TableHandHolds.TheImpl.{ghosts as of_hand}
use Rattle.hold_table.specs.declared.table.TheConstants.{SEAT_LIMIT}
use Rattle.hold_table.specs.Seats.{TableSeat, table_seat, IsSeatAt}
use Rattle.rmt_wire.specs.Counted.{Counting}
use Rattle.rmt_server.specs.State.{State, drive_of}
use Rattle.rmt_server.specs.Stream.{streams, streams_kind}
use Rattle.rmtd_serve.specs.Seating.{KeepsSeats, IsSeatReturned}

is_one : (n : ℕ) → (n ≡ 1) ⊎ (n ≢ 1)
is_one n = grind arith

-- there is another number for a seat
another : (n : ℕ) → (m : ℕ) × (1 ≤ m) × (m ≤ SEAT_LIMIT) × (m ≢ n)
another n = elim (is_one n) [
  | inl e ↦ (2, omega arith, omega arith, λ same. absurd (omega (arith, e, same)))
  | inr other ↦ (1, omega arith, omega arith, λ same. other (sym same))
]

-- The table of the hand is as before, since other seats of it are so still.
pub same_table : {S R : Type 0} (s : StacksPromise S R) (r : ReelPromise R) (start finish : State TableHand S TableSeat R)
    → KeepsSeats (kinds of_hand s r) start finish → start.drives.holds.table.now ≡ finish.drives.holds.table.now
same_table s r start finish kept =
    let other = another start.seat.view.number in
    (kept.others (table_seat start.drives.holds.table.now (newcomer other.0) 0) other.3 (record { same = refl; numbered = other.1; dealt = other.2 })).same

-- what a bench is told of a seat that came back, with its stacks
pub record IsBack {S R : Type 0} (drives : S → ℕ) (start : State TableHand S TableSeat R) (seat : TableSeat) (stacks : S) : Type 0 where
  pub same : seat.table ≡ start.drives.holds.table.now
  pub numbered : 1 ≤ seat.view.number
  pub dealt : seat.view.number ≤ SEAT_LIMIT
  pub idle : HoldsJust seat.view None
  pub enough : drives stacks ≡ drives start.drives.stacks

pub seat_is_returned : {S R In Out : Type 0} (s : StacksPromise S R) (r : ReelPromise R) (remaining : In → Option (List ℕ)) (contents : Out → Option (List ℕ))
    (start : State TableHand S TableSeat R) {input input' : Counting In} {output output' : Counting Out} {seat : TableSeat} {stacks : S}
    → IsSeatReturned (kinds of_hand s r) (streams_kind remaining contents) start (streams input output) (streams input' output') seat stacks
    → IsBack s.drives start seat stacks
seat_is_returned s r remaining contents start {seat = seat} {stacks} back =
    let afresh = back.2 in
    let finish = afresh.finish in
    let same = same_table s r start finish afresh.kept in
    let own : IsSeatAt finish.drives.holds.table.now seat = subst (IsSeatAt finish.drives.holds.table.now) (sym afresh.seat_back) afresh.at.own in record {
      same = own.same ∙ sym same;
      numbered = own.numbered;
      dealt = own.dealt;
      idle = subst (λ o. HoldsJust seat.view (drive_of o)) afresh.nothing (subst (λ x. HoldsJust x.view (drive_of finish.opened)) (sym afresh.seat_back) afresh.at.held);
      enough = ap s.drives (back.3 ∙ ap (λ d. d.stacks) afresh.drives_back) ∙ afresh.kept.same_stacks;
    }
