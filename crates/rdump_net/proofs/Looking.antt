-- A look at a reel, put together.
use Rattle.rdump_net.proofs.Words.{arith, ◌≡◌, ◌≢◌, inl, inr, ℕ, List, [], ◌∷◌, ◌++◌, Bool, true, false, Some, None, Result, Ok, Err, refl, sym, ap, subst, ◌∙◌, if◌then◌else◌, nat_eq, append-nil, EIO, MTFSF, PlainReply, Data, Done, Error, PlainRequest, Op, Read, IsCalled, HasCause, HasFailed, IsAsked, TapeRequest, TapeCause, TapeFault, Refused, NoReply, LookStage, Finding, Fails, Goes, IsFailedPart, IsLook, IsLookPart, IsRecordKept, LookFails, after_read, request_at, stage_from, stage_then, Front, Refusal, Opening, Reading, RewindingAgain, Spacing, Closing, Closed, Record, Empty, Logs, Connected, CallFault, OutOfMemory, Passed}
use Rattle.dump_run.specs.Label.{label_bytes}
use Rattle.refusals.specs.declared.request.TapeRequest.TheVariants as asked
use Rattle.remote_tape.specs.Tape.{is_refused_with}
use Rattle.rdump_net.specs.declared.look.ReelFront.{ReelFront}
use Rattle.rdump_net.specs.declared.look.ReelFront.TheVariants as fronts
use Rattle.remote_tape.proofs.Calls.{reply_extends, call_finishes, extends_both, finishes_after, finishes_there, whole_talk}

-- the stage after one more reply
stage_more : (stage : LookStage) (replies : List PlainReply) (reply : PlainReply) → stage_from stage (replies ++ reply ∷ []) ≡ stage_then (stage_from stage replies) reply
stage_more stage [] reply = refl
stage_more stage (r ∷ replies) reply = stage_more (stage_then stage r) replies reply

-- what comes after some bytes
after_some : (bytes : List ℕ) → bytes ≢ [] → after_read bytes ≡ Closing (Front (Record bytes))
after_some bytes some = grind arith

-- a reply came, and then an allocation failed: that is a call that failed so
short_of_memory : {P : Type 0} (tells : P → List Passed → Type 0) (p q : P) (count : ℕ) (reply : PlainReply) → IsCalled tells (Read count) (Ok reply) p q → IsCalled tells (Read count) (Err OutOfMemory) p q
short_of_memory tells p q count reply (passed, inl (more, (bytes, spelled, e), sent), logs) = (passed, inl (more, (bytes, _, [], (bytes, spelled, sym (append-nil bytes)), e), sent), logs)
short_of_memory tells p q count reply (passed, inr (inl h), logs) = absurd (let e = h.0 in cc)
short_of_memory tells p q count reply (passed, inr (inr h), logs) = absurd (let e = h.0 in cc)

module _ {P : Type 0} {tells : P → List Passed → Type 0} {device : List ℕ} where
  -- a call that is answered
  pub goes_by : {p q : P} {request : PlainRequest} (from : LookStage) (reply : PlainReply) → request_at device from ≡ Some request → IsCalled tells request (Ok reply) p q
      → Goes tells device from (stage_then from reply) p q
  goes_by from reply e h = λ replies at.
      (replies ++ reply ∷ [], reply_extends reply (ap (request_at device) at ∙ e) h, stage_more _ replies reply ∙ ap (λ s. stage_then s reply) at)

  -- one that has no reply
  pub fails_by : {p q : P} {request : PlainRequest} (from : LookStage) (fault : CallFault) → request_at device from ≡ Some request → IsCalled tells request (Err fault) p q → Fails tells device from fault p q
  fails_by from fault e h = λ replies at. (replies, call_finishes (ap (request_at device) at ∙ e) h)

  -- a call that is done
  pub done_part : {p q : P} {request : PlainRequest} (name : TapeRequest) (from : LookStage) → request_at device from ≡ Some request → (h : IsAsked tells name request p q (Ok tt)) → Goes tells device from (stage_then from (Done h.0)) p q
  done_part name from e h = goes_by from (Done h.0) e h.1

  -- calls, and then more
  pub goes_both : {p q r : P} {a b c : LookStage} → Goes tells device a b p q → Goes tells device b c q r → Goes tells device a c p r
  goes_both x y = λ replies at. let one = x replies at in let two = y one.0 one.2 in (two.0, extends_both one.1 two.1, two.2)

  pub goes_fails : {p q r : P} {a b : LookStage} {fault : CallFault} → Goes tells device a b p q → Fails tells device b fault q r → Fails tells device a fault p r
  goes_fails x y = λ replies at. let one = x replies at in let two = y one.0 one.2 in (two.0, finishes_after one.1 two.1)

  -- calls, and then a part of a look
  failed_after : {p q : P} (r : P) {a b : LookStage} (to : Finding → LookStage) (name : TapeRequest) (cause : TapeCause) → Goes tells device a b p q → IsFailedPart tells device b to q r name cause
      → IsFailedPart tells device a to p r name cause
  failed_after r to name (Refused n) x y = goes_both x y
  failed_after r to name (NoReply why) x y = goes_fails x y

  pub part_after : {p q : P} (r : P) {a b : LookStage} (to : Finding → LookStage) (result : Result ReelFront TapeFault) → Goes tells device a b p q → IsLookPart tells device b to q r result
      → IsLookPart tells device a to p r result
  part_after r to (Ok front) x y = goes_both x y
  part_after r to (Err fault) x y = failed_after r to fault.request fault.cause x y

module _ {P : Type 0} (tells : P → List Passed → Type 0) (device : List ℕ) (p q : P) where
  -- a call that was refused, or has no reply
  failed_for : {request : PlainRequest} (from : LookStage) (to : Finding → LookStage) (name given : TapeRequest) (cause : TapeCause) → given ≡ name → request_at device from ≡ Some request
      → ((n : ℕ) (text : List ℕ) → stage_then from (Error n text) ≡ to (Refusal name n)) → HasCause tells request p q cause → IsFailedPart tells device from to p q given cause
  failed_for from to name given (Refused n) same e turns (text, h) =
      subst (λ s. Goes tells device from s p q) (turns n text ∙ ap (λ r. to (Refusal r n)) (sym same)) (goes_by from (Error n text) e h)
  failed_for from to name given (NoReply why) same e turns h = fails_by from why e h

  pub failed_part : {request : PlainRequest} (from : LookStage) (to : Finding → LookStage) (name : TapeRequest) (fault : TapeFault) → request_at device from ≡ Some request
      → ((n : ℕ) (text : List ℕ) → stage_then from (Error n text) ≡ to (Refusal name n)) → HasFailed tells name request p q fault → IsLookPart tells device from to p q (Err fault)
  failed_part from to name fault e turns h = failed_for from to name fault.request fault.cause h.0 e turns h.1

  -- going over a mark was refused, since there is none or for another reason, or got no reply
  no_mark_if : (n : ℕ) (fault : TapeFault) (test : Bool) → fault.cause ≡ Refused n → fault.request ≡ asked.Space
      → Goes tells device Spacing (if test then Closing (Front Empty) else Closing (Refusal asked.Space n)) p q → IsLookPart tells device Spacing Closing p q (if test then Ok fronts.Empty else Err fault)
  no_mark_if n fault true e same x = x
  no_mark_if n fault false e same x =
      subst (IsFailedPart tells device Spacing Closing p q fault.request) (sym e) (subst (λ r. Goes tells device Spacing (Closing (Refusal r n)) p q) (sym same) x)

  no_mark_for : (fault : TapeFault) (cause : TapeCause) → fault.cause ≡ cause → fault.request ≡ asked.Space → HasCause tells (Op MTFSF 1) p q cause
      → IsLookPart tells device Spacing Closing p q (if is_refused_with EIO cause then Ok fronts.Empty else Err fault)
  no_mark_for fault (Refused n) e same (text, h) = no_mark_if n fault (nat_eq n EIO) e same (goes_by Spacing (Error n text) refl h)
  no_mark_for fault (NoReply why) e same h = subst (IsFailedPart tells device Spacing Closing p q fault.request) (sym e) (fails_by Spacing why refl h)

  pub no_mark_part : (fault : TapeFault) (result : Result ReelFront TapeFault) → result ≡ (if is_refused_with EIO fault.cause then Ok fronts.Empty else Err fault) → HasFailed tells asked.Space (Op MTFSF 1) p q fault
      → IsLookPart tells device Spacing Closing p q result
  no_mark_part fault result is h = subst (IsLookPart tells device Spacing Closing p q) (sym is) (no_mark_for fault fault.cause refl h.0 h.1)

  -- the first read returned nothing
  pub empty_read : (bytes : List ℕ) → bytes ≡ [] → IsCalled tells (Read label_bytes) (Ok (Data bytes)) p q → Goes tells device Reading RewindingAgain p q
  empty_read bytes none h = subst (λ b. Goes tells device Reading (after_read b) p q) none (goes_by Reading (Data bytes) refl h)

  -- the first record came, and was kept, or an allocation for it failed
  pub kept_part : (bytes : List ℕ) (result : Result ReelFront TapeFault) → bytes ≢ [] → IsRecordKept bytes result → IsCalled tells (Read label_bytes) (Ok (Data bytes)) p q
      → IsLookPart tells device Reading Closing p q result
  kept_part bytes (Ok front) some kept h =
      subst (λ s. Goes tells device Reading s p q) (after_some bytes some ∙ ap (λ f. Closing (Front f)) (sym kept)) (goes_by Reading (Data bytes) refl h)
  kept_part bytes (Err fault) some kept h =
      subst (IsFailedPart tells device Reading Closing p q fault.request) (sym kept.1) (fails_by Reading OutOfMemory refl (short_of_memory tells p q label_bytes (Data bytes) h))

module _ {P : Type 0} (tells : P → List Passed → Type 0) (device : List ℕ) where
  -- all of a look, over a new connection that is ended then
  failed_look : (p s q r : P) (name : TapeRequest) (cause : TapeCause) → Logs tells p q (Connected ∷ []) → IsFailedPart tells device Opening Closed q r name cause → Logs tells r s []
      → (replies : List PlainReply) × (passed : List Passed) × Logs tells p s passed × LookFails device replies passed name cause
  failed_look p s q r name (NoReply why) made h ended = let one = h [] refl in let w = whole_talk (Some why) made one.1 ended in (one.0, w.0, w.2, w.1)
  failed_look p s q r name (Refused n) made h ended =
      let one = h [] refl in
      let w = whole_talk None made (finishes_there (ap (request_at device) one.2) one.1) ended in
      (one.0, w.0, w.2, (w.1, one.2))

module _ {P : Type 0} {tells : P → List Passed → Type 0} {device : List ℕ} where
  pub whole_look : {p s : P} (q r : P) (result : Result ReelFront TapeFault) → Logs tells p q (Connected ∷ []) → IsLookPart tells device Opening Closed q r result → Logs tells r s []
      → IsLook tells device p s result
  whole_look {p} {s} q r (Err fault) made h ended =
      let w = failed_look tells device p s q r fault.request fault.cause made h ended in record { replies = w.0; passed = w.1; logs = w.2; ends = w.3 }
  whole_look q r (Ok front) made h ended =
      let one = h [] refl in
      let w = whole_talk None made (finishes_there (ap (request_at device) one.2) one.1) ended in
      record { replies = one.0; passed = w.0; logs = w.2; ends = (w.1, one.2) }
