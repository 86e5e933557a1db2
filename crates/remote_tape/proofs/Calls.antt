-- Calls over a peer, put together.
use Rattle.remote_tape.proofs.Words.{◌≡◌, inl, inr, map, ℕ, ◌<◌, List, [], ◌∷◌, ◌++◌, ◌≢◌, ◌≤◌, take, length, Option, Some, None, Result, Ok, Err, refl, sym, ap, subst, arith, append-nil, append_assoc, map-append, PlainReply, Data, Done, Error, Wanted, Number, ReplyHeld, PlainRequest, wanted_by, Answers, IsCalled, IsPeerCall, IsReceivedFrom, IsReplyAwaited, IsReplyHeard, TapeReply, plain_number, CallsFollow, Stops, Extends, Finishes, begins, Logs, CallFault, OutOfMemory, given, Passed, Connected, Ended, Given, Sent, both}
use Rattle.remote_tape.specs.Calls.CallsFollow.{one_more}
use Rattle.remote_tape.specs.declared.reply.TapeReply.TheVariants as kept
use Rattle.rmt_wire.specs.Request.{request_text}
use Rattle.remote_tape.proofs.Given.{none_given, some_given}

-- no reply is of the wrong kind
pub no_data : (request : PlainRequest) (bytes : List ℕ) (passed : List Passed) → wanted_by request ≡ Number → IsPeerCall request (Ok (Data bytes)) passed → ⊥
no_data request bytes passed w h = grind arith

module _ {P : Type 0} (tells : P → List Passed → Type 0) where
  -- bytes were given, and then more bytes
  pub bytes_came : {p q r : P} (bytes room : List ℕ) (n : ℕ) → Logs tells p q (map Given bytes) → n ≤ length room → n ≢ 0 → Logs tells q r (given room (take n room))
      → Logs tells p r (map Given (bytes ++ take n room))
  bytes_came {p} {q} {r} bytes room n logs within some told =
      subst (Logs tells p r) (sym (map-append Given bytes (take n room))) (both tells logs (subst (Logs tells q r) (some_given room n within some) told))

  -- a reader that waits received some bytes, or none
  pub some_came : {p q r : P} (bytes : List ℕ) (old new : ReplyHeld) (count : ℕ) → Logs tells p q (map Given bytes) → (w : IsReceivedFrom tells q r old new count) → count ≢ 0
      → Logs tells p r (map Given (bytes ++ take count w.room))
  some_came bytes old new count logs w some = bytes_came bytes w.room count logs w.within some w.logs

  pub none_came : {q r : P} (wanted : Wanted) (bytes : List ℕ) (old new : ReplyHeld) (count : ℕ) → IsReplyAwaited wanted old bytes → (w : IsReceivedFrom tells q r old new count) → count ≡ 0
      → Logs tells q r (Ended ∷ [])
  none_came {q} {r} wanted bytes old new count waits w none =
      let taken = ap (length {A = ℕ}) waits.unread.keeps in
      let some : 0 < length w.room = omega (arith, w.whole (Some wanted) bytes waits.unread, taken, waits.room) in
      subst (Logs tells q r) (none_given w.room count some none) w.logs

  -- a request was sent, and a reply was awaited
  pub heard_call : {p q r : P} (request : PlainRequest) (result : Result PlainReply CallFault) (sent : List Passed) → sent ≡ map Sent (request_text request) → Logs tells p q sent → IsReplyHeard tells (wanted_by request) result q r
      → IsCalled tells request result p r
  heard_call request result sent told logs heard = (sent ++ heard.0, inl (heard.0, heard.1, ap (λ s. s ++ heard.0) told), both tells logs heard.2)

  -- what came of a request whose reply is a number, once the reply is kept
  pub number_called : {p q : P} (request : PlainRequest) (answer : TapeReply) (reply : PlainReply) → wanted_by request ≡ Number → Answers answer reply → IsCalled tells request (Ok reply) p q
      → IsCalled tells request (Ok (plain_number answer)) p q
  number_called {p} {q} request (kept.Done n) (Done k) w same h = subst (λ m. IsCalled tells request (Ok (Done m)) p q) (sym same) h
  number_called request (kept.Done n) (Data bytes) w same h = absurd (no_data request bytes h.0 w h.1)
  number_called request (kept.Done n) (Error k text) w same h = absurd same
  number_called {p} {q} request (kept.Error n line) (Error k text) w same h =
      subst (λ m. IsCalled tells request (Ok (Error m line.items)) p q) (sym same.0) (subst (λ t. IsCalled tells request (Ok (Error k t)) p q) (sym same.1) h)
  number_called request (kept.Error n line) reply w same h = absurd same

  -- a reply came, for which there is no memory
  pub unkept_called : {p q : P} (request : PlainRequest) (reply : PlainReply) → IsCalled tells request (Ok reply) p q → IsCalled tells request (Err OutOfMemory) p q
  unkept_called request reply (passed, inl (more, (bytes, spelled, came), told), logs) = (passed, inl (more, (bytes, reply, [], (bytes, spelled, sym (append-nil bytes)), came), told), logs)
  unkept_called request reply (passed, inr (inl other), logs) = absurd (let no = other.0 in cc)
  unkept_called request reply (passed, inr (inr other), logs) = absurd (let no = other.0 in cc)

module _ {P : Type 0} {next : List PlainReply → Option PlainRequest} {tells : P → List Passed → Type 0} where
  -- further calls, and then what they lead to
  pub went_on : {p q r : P} {a b : List PlainReply} (F : List Passed → Type 0) → Extends next tells p q a b → (more : List Passed) → Logs tells q r more
      → ((passed : List Passed) → CallsFollow next b passed → F (passed ++ more))
      → (all : List Passed) × Logs tells p r all × ((passed : List Passed) → CallsFollow next a passed → F (passed ++ all))
  went_on F x more logs leads =
      (x.more ++ more, both tells x.logs logs, λ passed f. subst F (append_assoc passed x.more more) (leads (passed ++ x.more) (x.follows passed f)))

  -- a call with this reply
  pub reply_extends : {p q : P} {replies : List PlainReply} {request : PlainRequest} (reply : PlainReply) → next replies ≡ Some request → IsCalled tells request (Ok reply) p q
      → Extends next tells p q replies (replies ++ reply ∷ [])
  reply_extends {request = request} reply e h = record { more = h.0; logs = h.2; follows = λ passed f. one_more request reply f e h.1 }

  -- one that got none
  pub call_finishes : {p q : P} {replies : List PlainReply} {request : PlainRequest} {fault : CallFault} → next replies ≡ Some request → IsCalled tells request (Err fault) p q
      → Finishes next tells p q replies (Some fault) replies
  call_finishes {request = request} e h = record { more = h.0; logs = h.2; stops = λ passed f. inl (passed, h.0, request, f, e, h.1, refl) }

  -- calls, and then more
  pub extends_both : {p q r : P} {a b c : List PlainReply} → Extends next tells p q a b → Extends next tells q r b c → Extends next tells p r a c
  extends_both {c = c} x y = let all = went_on (CallsFollow next c) x y.more y.logs y.follows in record { more = all.0; logs = all.1; follows = all.2 }

  pub finishes_after : {p q r : P} {a b c : List PlainReply} {fault : Option CallFault} → Extends next tells p q a b → Finishes next tells q r b fault c
      → Finishes next tells p r a fault c
  finishes_after {c = c} {fault = fault} x y = let all = went_on (Stops next fault c) x y.more y.logs y.stops in record { more = all.0; logs = all.1; stops = all.2 }

  -- nothing more is asked
  pub finishes_there : {p q : P} {a b : List PlainReply} → next b ≡ None → Extends next tells p q a b → Finishes next tells p q a None b
  finishes_there none x = record { more = x.more; logs = x.logs; stops = λ passed f. (x.follows passed f, none) }

  -- calls over a new connection, which is ended then
  pub whole_talk : {p q r s : P} (fault : Option CallFault) {replies : List PlainReply} → Logs tells p q (Connected ∷ []) → Finishes next tells q r [] fault replies → Logs tells r s []
      → (passed : List Passed) × Stops next fault replies passed × Logs tells p s passed
  whole_talk {p} {s = s} fault made calls ended = (
    Connected ∷ calls.more,
    calls.stops (Connected ∷ []) begins,
    subst (Logs tells p s) (append-nil (Connected ∷ calls.more)) (both tells (both tells made calls.logs) ended),
  )
