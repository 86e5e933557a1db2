-- How a server of one stream ends.
use Rattle.std.proofs.Common.{◌≡◌, ℕ, false, List, [], Option, None, OnOk, IsErrAnd, MatchResult, Result, Ok, Err, refl, sym, ap, subst, inl, inr}
use Rattle.std.proofs.KnownBytes.{Appends-nil, Consumes-nil}
use Rattle.std.specs.Io.KnownBytes.{Appends, Consumes}
use Rattle.rmt_wire.specs.Counted.{Counting}
use Rattle.drives.specs.Opening.{Kinds}
use Rattle.drives.specs.Stacking.{ReelCanFail}
use Rattle.rmt_server.specs.State.{State, reel_of}
use Rattle.rmt_server.specs.Carrying.{MayFail}
use Rattle.rmt_server.specs.Session.{none}
use Rattle.rmt_server.specs.Stream.{streams, streams_kind, Exchange, AreRead, EndsAs, NoneFailed}
use Rattle.drives.specs.TapeLibrary.{TapeLibrary}
use Rattle.rmt_server.specs.Session.{session_view}
use Rattle.rmt_server.specs.Session.PlainSession.{Idle}
use Rattle.rmtd_serve.specs.declared.session_fault.SessionFault.{SessionFault}
use Rattle.rmtd_serve.specs.declared.session_fault.SessionFault.TheVariants.{Stream, OutOfMemory}
use Rattle.rmtd_serve.specs.Status.{ending_of}
use Rattle.rmtd_serve.specs.Stdio.{blank_session_view, EndsWith, IsServedAlone}
use Rattle.rmtd_serve.specs.Serving.{IsServedNext}
use Rattle.rmt_server.specs.declared.stream.Served.{Served}
use Rattle.rmt_server.specs.declared.stream.ServeFault.{ServeFault}

-- a fault of a session is told as one of its stream
pub of_stream : (result : Result Served ServeFault) (ending : Result Served SessionFault)
    → MatchResult result (λ x. ending ≡ Ok x) (λ e. IsErrAnd ending (λ d. d ≡ Stream e)) → ending ≡ ending_of result
of_stream (Ok served) ending same = same
of_stream (Err fault) (Ok served) same = absurd same
of_stream (Err fault) (Err told) same = ap Err same

pub ends_with : {R W : Type 0} (remaining : R → Option (List ℕ)) (contents : W → Option (List ℕ)) (result : Result Served ServeFault)
    (input input' : Counting R) (output output' : Counting W) (read : List ℕ) (done : List Exchange) (rest : List ℕ)
    → EndsAs (streams_kind remaining contents) result (streams input output) (streams input' output') read done rest → OnOk result (NoneFailed (streams input output) (streams input' output'))
    → EndsWith (streams_kind remaining contents) (ending_of result) (streams input output) (streams input' output') read done rest
ends_with remaining contents (Ok served) input input' output output' read done rest e f = (e, f)
ends_with remaining contents (Err fault) input input' output output' read done rest e f = e

-- where nothing is open and no device of the stacks can fail, none can
pub none_fails : {H S Seat R : Type 0} (k : Kinds H Seat S R) (x : State H S Seat R)
    → (k.stacks.can_fail x.drives.stacks → ⊥) → x.opened ≡ None → MayFail k x false
none_fails k x quiet e (inl f) = absurd (quiet f)
none_fails k x quiet e (inr f) = absurd (subst (λ o. ReelCanFail k.reels (reel_of o)) e f)

-- an input that is not touched gave nothing
pub none_read : {R W : Type 0} (remaining : R → Option (List ℕ)) (contents : W → Option (List ℕ)) {input input' : Counting R} (output output' : Counting W)
    → input' ≡ input → AreRead (streams_kind remaining contents) (streams input output) (streams input' output') []
none_read remaining contents {input} output output' i = subst (λ x. Consumes (remaining input.inner) (remaining x.inner) []) (sym i) (Consumes-nil (remaining input.inner))

-- streams that are not touched end as those that had no session
pub none_ends : {R W : Type 0} (remaining : R → Option (List ℕ)) (contents : W → Option (List ℕ)) {input input' : Counting R} {output output' : Counting W}
    → input' ≡ input → output' ≡ output
    → EndsWith (streams_kind remaining contents) (Err OutOfMemory) (streams input output) (streams input' output') [] [] []
none_ends remaining contents {output = output} i o = (
  record { spelled = refl; written = subst (λ x. Appends (contents output.inner) (contents x.inner) []) (sym o) (Appends-nil (contents output.inner)) },
  refl,
  (i, o),
)

-- nothing was read or written
pub unserved : {R W : Type 0} (remaining : R → Option (List ℕ)) (contents : W → Option (List ℕ)) {before after : TapeLibrary}
    {input input' : Counting R} {output output' : Counting W} {ending : Result Served SessionFault}
    → after ≡ before → input' ≡ input
    → EndsWith (streams_kind remaining contents) ending (streams input output) (streams input' output') [] [] []
    → IsServedNext (streams_kind remaining contents) before after (streams input output) (streams input' output') ending
unserved remaining contents {before} {output = output} {output'} same i ends = record {
  read = [];
  done = [];
  rest = [];
  finish = session_view before Idle;
  consumed = none_read remaining contents output output' i;
  ends = ends;
  run = none;
  left = same;
}

-- a stream that is served next from an empty reel is served alone
pub alone : {R W : Type 0} {remaining : R → Option (List ℕ)} {contents : W → Option (List ℕ)} {capacity : ℕ} {after : TapeLibrary}
    {input input' : Counting R} {output output' : Counting W} {ending : Result Served SessionFault}
    → IsServedNext (streams_kind remaining contents) (blank_session_view capacity).library after (streams input output) (streams input' output') ending
    → IsServedAlone (streams_kind remaining contents) capacity (streams input output) (streams input' output') ending
alone served = record {
  read = served.read;
  done = served.done;
  rest = served.rest;
  finish = served.finish;
  consumed = served.consumed;
  ends = served.ends;
  run = served.run;
}

-- a stream is not served alone where there is no memory for it
pub none_alone : {R W : Type 0} (remaining : R → Option (List ℕ)) (contents : W → Option (List ℕ)) (capacity : ℕ) (input : Counting R) (output : Counting W)
    {ending : Result Served SessionFault} → ending ≡ Err OutOfMemory
    → IsServedAlone (streams_kind remaining contents) capacity (streams input output) (streams input output) ending
none_alone remaining contents capacity input output e =
    subst (IsServedAlone (streams_kind remaining contents) capacity (streams input output) (streams input output)) (sym e)
    (alone (unserved remaining contents refl refl (none_ends remaining contents refl refl)))
