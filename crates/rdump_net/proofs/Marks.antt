-- What comes after the records of a volume: the look for the mark, the reel that is taken away, and the close.
use Rattle.rdump_net.proofs.Words.{◌≡◌, ◌≢◌, ◌⊎◌, ℕ, List, [], ◌∷◌, ◌++◌, true, false, Bool, Option, Some, None, Result, Ok, Err, refl, sym, ap, subst, ◌∙◌, if◌then◌else◌, append_assoc, arith, MTFSF, MTOFFL, PlainReply, Done, Error, PlainRequest, Close, Op, IsCalled, Stops, Extends, HasCause, IsAsked, TapeCause, TapeFault, NoReply, Refused, sink_ends, sink_kind, SinkCall, Takes, Mark, Complete, nothing, accepted, next_end, next_close, next_back, next_mark, records_of, ReadFails, ReadEnds, is_whole, HasReply, IsMarkFound, IsEndKnown, IsUnmarked, IsBeginningOf, GoesOnBy, CallSteps, IsDone, IsDoneNext, IsTakenAway, Concludes, HasConcluded, unasked, CallFault, ReadFault, NoMark, Undetermined, Passed, AfterVolume, Stay, Check, Offline}
use Rattle.rdump_net.specs.Reading.IsEnding.{accepted as has_completed}
use Rattle.refusals.specs.declared.request.TapeRequest.TheVariants as asked
use Rattle.rmt_wire.specs.declared.mtio.TheConstants.{MTBSR}
use Rattle.remote_tape.proofs.Calls.{went_on, reply_extends, call_finishes, extends_both}
use Rattle.remote_tape.proofs.Searching.{records_same, beginning_same, beginning_both, on_first, on_after}

-- what was replied stays so
reply_more : (next : List PlainReply → Option PlainRequest) (replies more : List PlainReply) (request : PlainRequest) (reply : PlainReply) → HasReply next replies request reply → HasReply next (replies ++ more) request reply
reply_more next replies more request reply (before, rest, same, asked) =
    (before, rest ++ more, ap (λ l. l ++ more) same ∙ append_assoc before (reply ∷ rest) more, asked)

found_more : (next : List PlainReply → Option PlainRequest) (replies later : List PlainReply) → IsBeginningOf replies later → IsMarkFound next replies → IsMarkFound next later
found_more next replies later (more, e) (number, h) = (number, rw e (reply_more next replies more (Op MTFSF 1) (Done number) h))

known_found : (next : List PlainReply → Option PlainRequest) (goes : AfterVolume) (replies : List PlainReply) → goes ≢ Stay → IsMarkFound next replies → IsEndKnown next goes replies (Mark ∷ Complete ∷ [])
known_found next goes replies some h = grind arith

-- what the sink was given matters only to a read that it stops
fails_so : (next : List PlainReply → Option PlainRequest) (end : List SinkCall) (replies : List PlainReply) (passed : List Passed) (fault : ReadFault) → is_whole (Err fault) ≡ true
    → ReadFails next [] replies passed fault → ReadFails next end replies passed fault
fails_so next end replies passed fault whole h = grind arith

unmarked_more : (next : List PlainReply → Option PlainRequest) (replies more : List PlainReply) (fault : ReadFault) → IsUnmarked next replies fault → IsUnmarked next (replies ++ more) fault
unmarked_more next replies more NoMark (number, h) = (number, reply_more next replies more (Op MTBSR 1) (Done number) h)
unmarked_more next replies more Undetermined (request, reply, before, rest, same, asked, closes, h) =
    (request, reply, before, rest ++ more, ap (λ l. l ++ more) same ∙ append_assoc before (reply ∷ rest) more, asked, closes, h)
unmarked_more next replies more fault h = absurd h

-- a mark that was not found fails the reads, whatever becomes of the close, and no call of the sink was refused
unmarked_fails : (next : List PlainReply → Option PlainRequest) (replies : List PlainReply) (fault : ReadFault) → IsUnmarked next replies fault
    → (is_whole (Err fault) ≡ true) × ((closing : Option CallFault) (passed : List Passed) → Stops next closing replies passed → ReadFails next [] replies passed fault)
unmarked_fails next replies NoMark h = (refl, λ closing passed stops. (closing, stops, h))
unmarked_fails next replies Undetermined h = (refl, λ closing passed stops. (closing, stops, h))
unmarked_fails next replies fault h = absurd h

module _ {P : Type 0} {next : List PlainReply → Option PlainRequest} {tells : P → List Passed → Type 0} where
  -- how the calls conclude
  pub concludes_failed : {goes : AfterVolume} {end : List SinkCall} {p q : P} {replies : List PlainReply} {fault : ReadFault} → CallSteps next tells p q replies (Err fault) → Concludes next goes end tells p q replies (Err fault)
  concludes_failed {end = end} {fault = fault} x =
      record { later = x.0; more = x.1.more; logs = x.1.logs; same = x.2; adds = x.4; whole = x.3; ends = λ passed f. fails_so next end x.0 (passed ++ x.1.more) fault x.3 (x.1.fails passed f) }

  -- the close is done, or not
  pub closed_done : {goes : AfterVolume} {end : List SinkCall} {p q : P} {replies : List PlainReply} (result : Result Unit ReadFault) → GoesOnBy next next_close replies
      → ((later : List PlainReply) → IsBeginningOf replies later → IsEndKnown next goes later end) → IsDoneNext tells Close p q result → Concludes next goes end tells p q replies result
  closed_done {replies = replies} (Ok u) closes known done = let z = done next replies (on_first next closes) (λ number text. closes (Error number text ∷ [])) in record {
    later = replies ++ z.0 ∷ [];
    more = z.3.more;
    logs = z.3.logs;
    same = records_same replies (z.0 ∷ []) z.2;
    adds = (z.0 ∷ [], refl);
    whole = refl;
    ends = λ passed f. (z.3.follows passed f, (replies, z.0, refl, on_first next closes, z.1), known (replies ++ z.0 ∷ []) (z.0 ∷ [], refl));
  }
  closed_done {replies = replies} (Err fault) closes known done = concludes_failed (done next replies (on_first next closes) (λ number text. closes (Error number text ∷ [])))

  -- the reel is taken away, or stays, and then the close
  pub taken_and_closed : {goes : AfterVolume} {p q r : P} {replies : List PlainReply} (result : Result Unit ReadFault) → goes ≢ Stay → IsMarkFound next replies → IsTakenAway next tells p q replies (Ok tt)
      → IsDoneNext tells Close q r result → Concludes next goes (Mark ∷ Complete ∷ []) tells p r replies result
  taken_and_closed {goes} {replies = replies} result some found w done =
      let goes_on = beginning_both replies (replies ++ w.0) in
      let y = closed_done {goes = goes} {end = Mark ∷ Complete ∷ []} result w.3 (λ later on. known_found next goes later some (found_more next replies later (goes_on later (w.0, refl) on) found)) done in
      let all = went_on (λ l. ReadEnds next goes (Mark ∷ Complete ∷ []) y.later l result) w.1 y.more y.logs y.ends in
      record { later = y.later; more = all.0; logs = all.1; same = y.same ∙ records_same replies w.0 w.2; adds = goes_on y.later (w.0, refl) y.adds; whole = y.whole; ends = all.2 }

  -- no mark is known to be there, and then the close comes, whatever its answer
  closed_by : {goes : AfterVolume} {p q : P} {replies : List PlainReply} {fault : ReadFault} (reply : PlainReply) → records_of (reply ∷ []) ≡ [] → GoesOnBy next next_close replies → IsUnmarked next replies fault
      → IsCalled tells Close (Ok reply) p q → Concludes next goes [] tells p q replies (Err fault)
  closed_by {replies = replies} {fault} reply none at h called =
      let x = reply_extends {tells = tells} reply (on_first next at) called in
      let fails = unmarked_fails next (replies ++ reply ∷ []) fault (unmarked_more next replies (reply ∷ []) fault h) in
      record {
        later = replies ++ reply ∷ [];
        more = x.more;
        logs = x.logs;
        same = records_same replies (reply ∷ []) none;
        adds = (reply ∷ [], refl);
        whole = fails.0;
        ends = λ passed f. fails.1 None (passed ++ x.more) (x.follows passed f, at (reply ∷ []));
      }

  closed_for : {goes : AfterVolume} {p q : P} {replies : List PlainReply} {fault : ReadFault} (cause : TapeCause) → GoesOnBy next next_close replies → IsUnmarked next replies fault → HasCause tells Close p q cause
      → Concludes next goes [] tells p q replies (Err fault)
  closed_for (Refused n) at h (text, called) = closed_by (Error n text) refl at h called
  closed_for {replies = replies} {fault} (NoReply cut) at h called =
      let x = call_finishes {tells = tells} (on_first next at) called in
      let fails = unmarked_fails next replies fault h in
      record { later = replies; more = x.more; logs = x.logs; same = refl; adds = beginning_same replies; whole = fails.0; ends = λ passed f. fails.1 (Some cut) (passed ++ x.more) (x.stops passed f) }

  pub closed_unmarked : {goes : AfterVolume} {p q : P} {replies : List PlainReply} {fault : ReadFault} (result : Result Unit TapeFault) → GoesOnBy next next_close replies → IsUnmarked next replies fault
      → IsAsked tells asked.Close Close p q result → Concludes next goes [] tells p q replies (Err fault)
  closed_unmarked (Ok u) at h called = closed_by (Done called.0) refl at h called.1
  closed_unmarked (Err fault) at h called = closed_for fault.cause at h called.1

module _ {P : Type 0} (next : List PlainReply → Option PlainRequest) (tells : P → List Passed → Type 0) where
  -- the mark is looked for, as `goes` asks
  pub look_so : (goes : AfterVolume) (c : Bool) (replies : List PlainReply) (n : ℕ) → (goes ≡ Check) ⊎ (goes ≡ Offline) → GoesOnBy next (next_mark goes c n) replies
      → (goes ≢ Stay) × GoesOnBy next (next_back (next_end goes c) n) replies
  look_so goes c replies n is at = grind arith

  -- the reel is to go
  taken_so : (p q : P) (replies : List PlainReply) (result : Result Unit ReadFault) → GoesOnBy next (next_end Offline true) replies → IsDone next tells p q replies result → IsTakenAway next tells p q replies result
  taken_so p q replies (Ok u) at x =
      (x.0 ∷ [], x.3, x.2, λ ends. on_after next (next_end Offline true) replies x.0 at ends ∙ ap (λ t. if t then next_close ends else None) x.1)
  taken_so p q replies (Err fault) at x = x

  pub reel_goes : (p q : P) (goes : AfterVolume) (replies : List PlainReply) (result : Result Unit ReadFault) → goes ≡ Offline → GoesOnBy next (next_end goes true) replies → IsDoneNext tells (Op MTOFFL 1) p q result
      → IsTakenAway next tells p q replies result
  reel_goes p q goes replies result is at x =
      let goes_on : GoesOnBy next (next_end Offline true) replies = subst (λ g. GoesOnBy next (next_end g true) replies) is at in
      taken_so p q replies result goes_on (x next replies (on_first next goes_on) (λ number text. goes_on (Error number text ∷ [])))

module _ {P S : Type 0} {next : List PlainReply → Option PlainRequest} {tells : P → List Passed → Type 0} {takes : S → S → SinkCall → Bool → Type 0} where
  -- the sink is given nothing
  pub concluded_unasked : {goes : AfterVolume} {p q : P} (s : S) {replies : List PlainReply} {result : Result Unit ReadFault} → Concludes next goes [] tells p q replies result
      → HasConcluded next goes false (sink_kind tells takes) replies (sink_ends p s) (sink_ends q s) result
  concluded_unasked s x =
      record { later = x.later; more = x.more; end = []; logs = x.logs; same = x.same; took = subst (Takes takes s s []) (sym x.whole) nothing; ending = unasked; ends = x.ends }

  -- it has completed at the mark
  pub concluded_kept : {goes : AfterVolume} {p q : P} {s u : S} (t : S) {replies : List PlainReply} {result : Result Unit ReadFault} → goes ≢ Stay → IsMarkFound next replies → takes s t Mark true
      → takes t u Complete true → Concludes next goes (Mark ∷ Complete ∷ []) tells p q replies result → HasConcluded next goes true (sink_kind tells takes) replies (sink_ends p s) (sink_ends q u) result
  concluded_kept {u = u} t {replies} some found marked completed x = record {
    later = x.later;
    more = x.more;
    end = Mark ∷ Complete ∷ [];
    logs = x.logs;
    same = x.same;
    took = accepted marked (accepted completed (subst (Takes takes u u []) (sym x.whole) nothing));
    ending = has_completed (found_more next replies x.later x.adds found) some x.whole;
    ends = x.ends;
  }

  -- calls, and then those that conclude
  pub concluded_after : {goes : AfterVolume} {c : Bool} {p q r : P} {s t : S} {a b : List PlainReply} {result : Result Unit ReadFault} → Extends next tells p q a b → records_of b ≡ records_of a
      → HasConcluded next goes c (sink_kind tells takes) b (sink_ends q s) (sink_ends r t) result → HasConcluded next goes c (sink_kind tells takes) a (sink_ends p s) (sink_ends r t) result
  concluded_after {goes} {result = result} x same y =
      let all = went_on (λ l. ReadEnds next goes y.end y.later l result) x y.more y.logs y.ends in
      record { later = y.later; more = all.0; end = y.end; logs = all.1; same = y.same ∙ same; took = y.took; ending = y.ending; ends = all.2 }
