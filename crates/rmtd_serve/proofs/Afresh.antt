-- A stream that a session of its own served, at stacks that are seen alone.
use Rattle.std.proofs.Common.{◌≡◌, ℕ, List, Option, None, Result, Err, refl, sym, subst, ◌∙◌}
use Rattle.rmt_wire.specs.Counted.{Counting}
use Rattle.tape.specs.declared.reel.Reel.{Ghosts as ReelPromise}
use Rattle.drives.specs.declared.stacks.Stacks.{Ghosts as StacksPromise}
use Rattle.drives.specs.declared.view.View.{View}
use Rattle.drives.specs.Local.{Holders}
use Rattle.drives.specs.Opening.{Kinds, kinds}
use Rattle.drives.specs.contracts.local.LocalHoldsHolds.TheImpl.{ghosts as of_holds}
use Rattle.rmt_server.specs.declared.stream.Served.{Served}
use Rattle.rmt_server.specs.State.{State}
use Rattle.rmt_server.specs.Stream.{streams, streams_kind}
use Rattle.rmtd_serve.specs.declared.session_fault.SessionFault.{SessionFault}
use Rattle.rmtd_serve.specs.declared.session_fault.SessionFault.TheVariants.{NoSeat}
use Rattle.rmtd_serve.specs.Generic.{IsServedAt}
use Rattle.rmtd_serve.specs.Generic.IsServedAt.{no_memory, no_seat, one_served}
use Rattle.rmtd_serve.specs.Serving.{AllFree}
use Rattle.rmtd_serve.specs.Seating.{ServesStreams}
use Rattle.rmtd_serve.specs.Seating.ServesStreams.{untouched, served}
use Rattle.rmtd_serve.proofs.Resting.{free_alone}

-- no seat was left, and nothing was read or written
pub not_served : {H S Seat R In Out : Type 0} {k : Kinds H Seat S R} {remaining : In → Option (List ℕ)} {contents : Out → Option (List ℕ)}
    {before after : S} {input : Counting In} {output : Counting Out} {ending : Result Served SessionFault} → after ≡ before → ending ≡ Err NoSeat
    → IsServedAt k (streams_kind remaining contents) before after (streams input output) (streams input output) ending
not_served {k = k} {remaining} {contents} {before} {after} {input} {output} same e =
    subst (IsServedAt k (streams_kind remaining contents) before after (streams input output) (streams input output)) (sym e) (no_seat same refl refl)

-- where no seat held a drive before it
pub stacks_served : {S R In Out : Type 0} (s : StacksPromise S R) (r : ReelPromise R) (remaining : In → Option (List ℕ)) (contents : Out → Option (List ℕ))
    (start : State Holders S View R) (before after : S) {input input' : Counting In} {output output' : Counting Out} {ending : Result Served SessionFault}
    {finish : State Holders S View R} → start.drives.stacks ≡ before → finish.drives.stacks ≡ after → start.opened ≡ None → finish.opened ≡ None
    → AllFree start.drives.holds
    → ServesStreams (kinds of_holds s r) (streams_kind remaining contents) start (streams input output) (streams input' output') ending finish
    → IsServedAt (kinds of_holds s r) (streams_kind remaining contents) before after (streams input output) (streams input' output') ending
stacks_served s r remaining contents start before after b a n f free (untouched i o) = no_memory (sym a ∙ b) i o
stacks_served s r remaining contents start before after b a n f free (served finish result is steady) =
    one_served start finish result b n (free_alone s r start free) a f is steady
