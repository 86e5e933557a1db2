-- The replies of one operation of mtio.
use Rattle.rdump_net.proofs.Words.{◌≡◌, ℕ, List, [], ◌∷◌, ◌++◌, true, Option, Some, None, Result, Ok, Err, refl, PlainReply, Done, Error, PlainRequest, HasCause, IsAsked, TapeRequest, TapeCause, TapeFault, NoReply, Refused, ExitStatus, Open, Close, Op, IsCalled, is_done, stream_ends, stream_kind, mode_for, IsOperationReply, IsOperated, IsReplyPrinted, Counting, CallFault, Passed}
use Rattle.rdump_net.specs.Operation.{next_of}
use Rattle.remote_tape.proofs.Calls.{reply_extends, call_finishes, extends_both, finishes_after, finishes_there}

-- a request to a tape is a call
caused_call : {P : Type 0} (tells : P → List Passed → Type 0) (p q : P) (request : PlainRequest) (cause : TapeCause) → HasCause tells request p q cause → (result : Result PlainReply CallFault) × IsCalled tells request result p q
caused_call tells p q request (Refused n) (text, h) = (Ok (Error n text), h)
caused_call tells p q request (NoReply why) h = (Err why, h)

pub asked_call : {P : Type 0} (tells : P → List Passed → Type 0) (p q : P) (request : PlainRequest) (name : TapeRequest) (result : Result Unit TapeFault) → IsAsked tells name request p q result
    → (reply : Result PlainReply CallFault) × IsCalled tells request reply p q
asked_call tells p q request name (Ok u) h = (Ok (Done h.0), h.1)
asked_call tells p q request name (Err fault) h = caused_call tells p q request fault.cause h.1

module _ {P : Type 0} (tells : P → List Passed → Type 0) (device : List ℕ) (op count : ℕ) where
  -- the open was done, and the operation is asked
  pub operation_asked : {p q r : P} (first : PlainReply) (result : Result PlainReply CallFault) → is_done first ≡ true
      → IsCalled tells (Open device (mode_for op)) (Ok first) p q → IsCalled tells (Op op count) result q r → IsOperationReply (next_of device op count) tells p r result
  operation_asked first (Ok reply) met h k =
      let asks : next_of device op count (first ∷ []) ≡ Some (Op op count) = rw met refl in
      (first ∷ reply ∷ [], extends_both (reply_extends first refl h) (reply_extends reply asks k), rw met refl, rw met refl, λ closed. (refl, rw met refl))
  operation_asked first (Err fault) met h k =
      let asks : next_of device op count (first ∷ []) ≡ Some (Op op count) = rw met refl in
      (first ∷ [], finishes_after (reply_extends first refl h) (call_finishes asks k), rw met refl)

  module _ {W : Type 0} {contents : W → Option (List ℕ)} where
    -- a reply is printed, and then comes the close
    pub told_then_closed : {p q r : P} {out out' : Counting W} {status : ExitStatus} (reply : PlainReply) (result : Result PlainReply CallFault) → IsOperationReply (next_of device op count) tells p q (Ok reply)
        → IsReplyPrinted contents reply out out' status → IsCalled tells Close result q r → IsOperated (stream_kind tells contents) device op count (stream_ends p out) (stream_ends r out') status
    told_then_closed reply (Ok closed) w told k =
        let last = w.4 closed in
        let finishes = finishes_there last.0 (extends_both w.1 (reply_extends closed w.2 k)) in
        record { replies = w.0 ++ closed ∷ []; fault = None; whole = told.0; finishes = finishes; printed = rw last.1 told.1; result = rw last.1 told.2 }
    told_then_closed reply (Err fault) w told k =
        record { replies = w.0; fault = Some fault; whole = told.0; finishes = finishes_after w.1 (call_finishes w.2 k); printed = rw w.3 told.1; result = rw w.3 told.2 }
