-- The search for the mark behind the records, put together.
use Rattle.remote_tape.proofs.Words.{◌≡◌, ℕ, List, [], ◌∷◌, ◌++◌, Option, Some, Result, Ok, Err, refl, sym, ap, subst, ◌∙◌, arith, true, false, nat_eq, if◌then◌else◌, append-nil, append_assoc, EIO, MTBSR, MTFSF, MTFSR, PlainReply, Done, Data, Error, PlainRequest, Op, IsCalled, Extends, TapeRequest, TapeCause, TapeFault, MarkSearch, HasCause, IsAsked, IsNamed, IsSpace, records_of, next_again, next_back, next_close, next_over, HasNoReply, HasSought, IsBeginningOf, GoesOnBy, StopsTheSearch, given_up_for, Passed}
use Rattle.std.proofs.lemmas.Bool.Decides.{nat_tests}
use Rattle.remote_tape.specs.Tape.{is_refused_with}
use Rattle.remote_tape.specs.declared.fault.TapeCause.TheVariants.{Refused, NoReply}
use Rattle.remote_tape.specs.declared.mark_search.MarkSearch.TheVariants as found
use Rattle.remote_tape.proofs.Calls.{reply_extends, call_finishes, extends_both, finishes_after}

-- the records of replies, and of more
pub records_more : (a b : List PlainReply) → records_of (a ++ b) ≡ records_of a ++ records_of b
records_more [] b = refl
records_more (Data bytes ∷ a) b = ap (λ l. bytes ∷ l) (records_more a b)
records_more (reply ∷ a) b = records_more a b

pub records_same : (a b : List PlainReply) → records_of b ≡ [] → records_of (a ++ b) ≡ records_of a
records_same a b none = records_more a b ∙ ap (λ l. records_of a ++ l) none ∙ append-nil (records_of a)

-- what a list begins with
pub beginning_same : (a : List PlainReply) → IsBeginningOf a a
beginning_same a = ([], sym (append-nil a))

pub beginning_both : (a b c : List PlainReply) → IsBeginningOf a b → IsBeginningOf b c → IsBeginningOf a c
beginning_both a b c (x, e) (y, f) = (x ++ y, f ∙ ap (λ l. l ++ y) e ∙ append_assoc a x y)

-- what is asked where nothing more was answered, and once this was
pub on_first : (next : List PlainReply → Option PlainRequest) {step : List PlainReply → Option PlainRequest} {replies : List PlainReply} → GoesOnBy next step replies → next replies ≡ step []
on_first next {step} {replies} at = ap next (sym (append-nil replies)) ∙ at []

pub on_after : (next step : List PlainReply → Option PlainRequest) (replies : List PlainReply) (reply : PlainReply) → GoesOnBy next step replies
    → GoesOnBy next (λ ends. step (reply ∷ ends)) (replies ++ reply ∷ [])
on_after next step replies reply at = λ ends. ap next (append_assoc replies (reply ∷ []) ends) ∙ at (reply ∷ ends)

-- what a search comes to, after these replies
abbrev pub Sought : {P : Type 0} → (List PlainReply → Option PlainRequest) → (List PlainReply → Option PlainRequest) → (P → List Passed → Type 0)
    → P → P → List PlainReply → Result MarkSearch TapeFault → Type 0
Sought next at_mark tells p q replies result =
    (later : List PlainReply) × (records_of later ≡ records_of replies) × IsBeginningOf replies later × HasSought next at_mark tells p q replies later result

module _ {P : Type 0} {next : List PlainReply → Option PlainRequest} {tells : P → List Passed → Type 0} where
  no_reply_after : {p q r : P} {a b c : List PlainReply} {fault : TapeFault} → Extends next tells p q a b → HasNoReply next tells q r b fault c → HasNoReply next tells p r a fault c
  no_reply_after x y = record { why = y.why; cause = y.cause; finishes = finishes_after x y.finishes; request = y.request; is_next = y.is_next; names = y.names }

  has_after : (at_mark : List PlainReply → Option PlainRequest) {p q : P} (r : P) {a b : List PlainReply} (c : List PlainReply) (result : Result MarkSearch TapeFault) → Extends next tells p q a b
      → HasSought next at_mark tells q r b c result → HasSought next at_mark tells p r a c result
  has_after at_mark r c (Ok found.Found) x y = (extends_both x y.0, y.1, y.2)
  has_after at_mark r c (Ok found.Missing) x y = (extends_both x y.0, y.1, y.2)
  has_after at_mark r c (Ok (found.Refused name number)) x y = (extends_both x y.0, y.1, y.2, y.3)
  has_after at_mark r c (Ok found.TooManyRecords) x y = (extends_both x y.0, y.1, y.2)
  has_after at_mark r c (Err fault) x y = no_reply_after x y

  module _ {p q : P} {replies : List PlainReply} {k : ℕ} (at_mark : List PlainReply → Option PlainRequest) where
    -- back over a record is done: there is no mark
    pub search_missing : (n : ℕ) → GoesOnBy next (next_back at_mark n) replies → IsCalled tells (Op MTBSR 1) (Ok (Done k)) p q → Sought next at_mark tells p q replies (Ok found.Missing)
    search_missing n at h = (
      replies ++ Done k ∷ [],
      records_same replies (Done k ∷ []) refl,
      (Done k ∷ [], refl),
      (reply_extends (Done k) (on_first next at) h, on_after next (next_back at_mark n) replies (Done k) at, (k, (replies, [], refl, on_first next at))),
    )

    -- over the mark is done
    pub search_found : GoesOnBy next (next_over at_mark) replies → IsCalled tells (Op MTFSF 1) (Ok (Done k)) p q → Sought next at_mark tells p q replies (Ok found.Found)
    search_found at h = (
      replies ++ Done k ∷ [],
      records_same replies (Done k ∷ []) refl,
      (Done k ∷ [], refl),
      (reply_extends (Done k) (on_first next at) h, on_after next (next_over at_mark) replies (Done k) at, (k, (replies, [], refl, on_first next at))),
    )

module _ {P : Type 0} (next : List PlainReply → Option PlainRequest) (tells : P → List Passed → Type 0) (p q : P) (replies : List PlainReply) (at_mark step : List PlainReply → Option PlainRequest)
    (at : GoesOnBy next step replies) where
  -- a step of the search was answered, and the search goes on
  pub search_on : (r : P) {request : PlainRequest} (further : List PlainReply → Option PlainRequest) (reply : PlainReply) (result : Result MarkSearch TapeFault)
      → records_of (reply ∷ []) ≡ [] → step [] ≡ Some request → ((ends : List PlainReply) → step (reply ∷ ends) ≡ further ends) → IsCalled tells request (Ok reply) p q
      → (GoesOnBy next further (replies ++ reply ∷ []) → Sought next at_mark tells q r (replies ++ reply ∷ []) result) → Sought next at_mark tells p r replies result
  search_on r further reply result none asks turns h more =
      let y = more (λ ends. on_after next step replies reply at ends ∙ turns ends) in
      (y.0, y.1 ∙ records_same replies (reply ∷ []) none, beginning_both replies (replies ++ reply ∷ []) y.0 (reply ∷ [], refl) y.2, has_after at_mark r y.0 result (reply_extends reply (on_first next at ∙ asks) h) y.3)

  -- the answer to a step stops the search, and the close comes
  search_stopped : (request : PlainRequest) (reply : PlainReply) → StopsTheSearch request reply → step [] ≡ Some request → ((ends : List PlainReply) → step (reply ∷ ends) ≡ next_close ends)
      → IsCalled tells request (Ok reply) p q → HasSought next at_mark tells p q replies (replies ++ reply ∷ []) (Ok found.TooManyRecords)
  search_stopped request reply stops asks turns h =
      let closes : GoesOnBy next next_close (replies ++ reply ∷ []) = λ ends. on_after next step replies reply at ends ∙ turns ends in
      let asked = on_first next at ∙ asks in
      (reply_extends reply asked h, closes, (request, reply, replies, [], refl, asked, on_first next closes, stops))

  -- a step fails: it is refused, and the close comes, or it gets no reply
  given_up_so : (name : TapeRequest) (request : PlainRequest) (fault : TapeFault) (cause : TapeCause) → fault.cause ≡ cause → fault.request ≡ name → IsNamed name request → step [] ≡ Some request
      → ((n : ℕ) (text : List ℕ) (ends : List PlainReply) → cause ≡ Refused n → step (Error n text ∷ ends) ≡ next_close ends) → HasCause tells request p q cause
      → Sought next at_mark tells p q replies (given_up_for fault cause)
  given_up_so name request fault (Refused n) e same is asks turns (text, h) =
      let w = search_stopped request (Error n text) tt asks (λ ends. turns n text ends refl) h in
      let named = subst (λ r. IsNamed r request) (sym same) is in
      (replies ++ Error n text ∷ [], records_same replies (Error n text ∷ []) refl, (Error n text ∷ [], refl), (w.0, w.1, w.2, (replies, text, request, refl, on_first next at ∙ asks, named)))
  given_up_so name request fault (NoReply why) e same is asks turns h =
      let asked = on_first next at ∙ asks in
      let named = subst (λ r. IsNamed r request) (sym same) is in
      (replies, refl, beginning_same replies, record { why = why; cause = e; finishes = call_finishes asked h; request = request; is_next = asked; names = named })

  pub search_given_up : (name : TapeRequest) (request : PlainRequest) (fault : TapeFault) → IsNamed name request → step [] ≡ Some request
      → ((n : ℕ) (text : List ℕ) (ends : List PlainReply) → fault.cause ≡ Refused n → step (Error n text ∷ ends) ≡ next_close ends) → IsAsked tells name request p q (Err fault)
      → Sought next at_mark tells p q replies (given_up_for fault fault.cause)
  search_given_up name request fault is asks turns h = given_up_so name request fault fault.cause refl h.0 is asks turns h.1

  -- too many records for one request
  pub search_ended : (request : PlainRequest) (reply : PlainReply) → StopsTheSearch request reply → records_of (reply ∷ []) ≡ []
      → step [] ≡ Some request → ((ends : List PlainReply) → step (reply ∷ ends) ≡ next_close ends) → IsCalled tells request (Ok reply) p q
      → Sought next at_mark tells p q replies (Ok found.TooManyRecords)
  search_ended request reply stops none asks turns h =
      (replies ++ reply ∷ [], records_same replies (reply ∷ []) none, (reply ∷ [], refl), search_stopped request reply stops asks turns h)

-- these operations space
pub over_marks : IsSpace MTFSF
over_marks = (omega arith, omega arith)

pub over_records : IsSpace MTFSR
over_records = (omega arith, omega arith)

pub over_back : IsSpace MTBSR
over_back = (omega arith, omega arith)

-- back over a record is refused with EIO
pub back_refused : {P : Type 0} (tells : P → List Passed → Type 0) (p q : P) (request : PlainRequest) (cause : TapeCause) → true ≡ is_refused_with EIO cause → HasCause tells request p q cause
    → (text : List ℕ) × IsCalled tells request (Ok (Error EIO text)) p q
back_refused tells p q request (Refused n) is (text, h) =
    let same : n ≡ EIO = grind (arith, nat_tests) in (text, subst (λ k. IsCalled tells request (Ok (Error k text)) p q) same h)
back_refused tells p q request (NoReply why) is h = absurd (cc)

-- or with another error
pub back_given_up : (at_mark : List PlainReply → Option PlainRequest) (records : ℕ) (cause : TapeCause) (n : ℕ) (text : List ℕ) (ends : List PlainReply) → false ≡ is_refused_with EIO cause → cause ≡ Refused n
    → next_back at_mark records (Error n text ∷ ends) ≡ next_close ends
back_given_up at_mark records cause n text ends other e =
    let test : nat_eq n EIO ≡ false = sym (other ∙ ap (is_refused_with EIO) e) in ap (λ t. if t then next_again at_mark records ends else next_close ends) test
