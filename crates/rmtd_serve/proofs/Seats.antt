-- What a seat keeps while a session works at it, and how it comes back.
use Rattle.std.proofs.Common.{◌≡◌, ℕ, ◌≤◌, List, Option, None, OnOk, Result, Err, refl, sym, subst, ◌∙◌}
use Rattle.rmt_wire.specs.Counted.{Counting}
use Rattle.drives.specs.declared.table.DriveTable.{DriveTable}
use Rattle.drives.specs.Holding.{HoldsJust}
use Rattle.drives.specs.Opening.{Kinds}
use Rattle.rmt_server.specs.declared.session.session_state.SessionState.{SessionState}
use Rattle.rmt_server.specs.declared.stream.Served.{Served}
use Rattle.rmt_server.specs.declared.stream.ServeFault.{ServeFault}
use Rattle.rmt_server.specs.State.{State, state, seated_at, IsAt, KeepsDrives}
use Rattle.rmt_server.specs.Stream.{streams, streams_kind, Exchange, CarryRun, IsServedAs, NoneFailed}
use Rattle.rmt_server.specs.Stream.CarryRun.{none, one_more}
use Rattle.rmtd_serve.specs.declared.session_fault.SessionFault.{SessionFault}
use Rattle.rmtd_serve.specs.declared.session_fault.SessionFault.TheVariants.{OutOfMemory}
use Rattle.rmtd_serve.specs.Status.{ending_of}
use Rattle.rmtd_serve.specs.Seating.{IsServedAfresh, KeepsSeats, ServesStreams}
use Rattle.rmtd_serve.specs.Seating.ServesStreams.{untouched, served}

keeps_nothing : {H S Seat R : Type 0} (k : Kinds H Seat S R) (x : State H S Seat R) → KeepsSeats k x x
keeps_nothing k x = record { number = refl; others = λ other apart own. own; same_holds = refl; same_stacks = refl }

keeps_on : {H S Seat R : Type 0} (k : Kinds H Seat S R) (x y : State H S Seat R) {z : State H S Seat R}
    → KeepsSeats k x y → KeepsDrives k y z → KeepsSeats k x z
keeps_on k x y a b = record {
  number = b.number ∙ a.number;
  others = λ other apart own. b.others other (λ same. apart (same ∙ a.number)) (a.others other apart own);
  same_holds = b.same_holds ∙ a.same_holds;
  same_stacks = b.same_stacks ∙ a.same_stacks;
}

keeps_run : {H S Seat R : Type 0} (k : Kinds H Seat S R) (start : State H S Seat R) {done : List Exchange} {last : State H S Seat R}
    → CarryRun k start done last → KeepsSeats k start last
keeps_run k start none = keeps_nothing k start
keeps_run k start (one_more request reply run step spelled) = keeps_on k start _ (keeps_run k start run) step.kept

-- a seat that holds no drive, while nothing is open
pub idle_at : {H S Seat R : Type 0} (k : Kinds H Seat S R) (drives : DriveTable H S Seat R) (seat : Seat)
    → k.holds.belongs drives.holds seat → HoldsJust (k.holds.shows seat) None → k.stacks.drives drives.stacks ≤ k.holds.drives drives.holds
    → IsAt k (seated_at drives seat None)
idle_at k drives seat own idle enough = record {
  own = own;
  enough = enough;
  held = idle;
  below = λ d x. absurd cc;
  latched = λ d x. absurd cc;
}

-- neither stream is touched
pub untouched_back : {H S Seat R In Out : Type 0} (k : Kinds H Seat S R) (remaining : In → Option (List ℕ)) (contents : Out → Option (List ℕ))
    (drives : DriveTable H S Seat R) (seat back : Seat) (input : Counting In) (output : Counting Out)
    → k.holds.belongs drives.holds seat → HoldsJust (k.holds.shows seat) None → k.stacks.drives drives.stacks ≤ k.holds.drives drives.holds
    → back ≡ seat → IsServedAfresh k (streams_kind remaining contents) (seated_at drives seat None) (streams input output) (streams input output) drives back (Err OutOfMemory)
untouched_back k remaining contents drives seat back input output own idle enough same = record {
  finish = seated_at drives seat None;
  serves = untouched refl refl;
  drives_back = refl;
  seat_back = same;
  nothing = refl;
  at = idle_at k drives seat own idle enough;
  kept = keeps_nothing k (seated_at drives seat None);
}

-- a session with nothing open is served, and its seat comes back
pub served_back : {H S Seat R In Out : Type 0} (k : Kinds H Seat S R) (remaining : In → Option (List ℕ)) (contents : Out → Option (List ℕ))
    (drives drives' : DriveTable H S Seat R) (seat : Seat) (session_state session_state' : SessionState Seat R) (input input' : Counting In) (output output' : Counting Out)
    (result : Result Served ServeFault) (back : Seat) (ending : Result Served SessionFault) → session_state ≡ record { seat = seat; opened = None }
    → IsServedAs k (streams_kind remaining contents) result (streams input output) (streams input' output') (state drives session_state) (state drives' session_state')
    → OnOk result (NoneFailed (streams input output) (streams input' output')) → session_state'.opened ≡ None → back ≡ session_state'.seat → ending ≡ ending_of result
    → IsServedAfresh k (streams_kind remaining contents) (seated_at drives seat None) (streams input output) (streams input' output') drives' back ending
served_back k remaining contents drives drives' seat session_state session_state' input input' output output' result back ending new is steady nothing same e =
    subst (λ d. IsServedAfresh k (streams_kind remaining contents) (state drives d) (streams input output) (streams input' output') drives' back ending) new record {
      finish = state drives' session_state';
      serves = subst (λ o. ServesStreams k (streams_kind remaining contents) (state drives session_state) (streams input output) (streams input' output') o (state drives' session_state')) (sym e)
          (served (state drives' session_state') result is steady);
      drives_back = refl;
      seat_back = same;
      nothing = nothing;
      at = is.ended.at;
      kept = keeps_on k (state drives session_state) is.last (keeps_run k (state drives session_state) is.run) is.ended.kept;
    }
