-- The search for the mark behind the records of a reel: its requests, and what it finds. A peer is
-- the far end of a connection: what is sent over it goes through that connection. `p` and `p'` are
-- the peer before and after, and `tells` relates a peer to what passed so far. `next` gives the
-- request that follows some replies. Public contracts cite it.
use Rattle.std.specs.Prelude.{◌≡◌, ℕ, List, [], ◌∷◌, ◌++◌, nat_eq, nat_lt, Option, Some, None, Result, Ok, Err, if◌then◌else◌}
use Rattle.rmt_wire.specs.declared.errno.TheConstants.{EIO}
use Rattle.rmt_wire.specs.declared.mtio.TheConstants.{MTBSR, MTFSF, MTFSR, MTREW}
use Rattle.rmt_wire.specs.declared.limits.TheConstants.{NUMBER_LIMIT}
use Rattle.rmt_wire.specs.Reply.{PlainReply}
use Rattle.rmt_wire.specs.Reply.PlainReply.{Done, Data, Error}
use Rattle.rmt_wire.specs.Request.{PlainRequest}
use Rattle.rmt_wire.specs.Request.PlainRequest.{Close, Op}
use Rattle.refusals.specs.declared.request.TapeRequest.{TapeRequest}
use Rattle.remote_tape.specs.Calls.{Extends, Finishes}
use Rattle.remote_tape.specs.Tape.{IsNamed}
use Rattle.remote_tape.specs.declared.fault.CallFault.{CallFault}
use Rattle.remote_tape.specs.declared.fault.TapeCause.{TapeCause}
use Rattle.remote_tape.specs.declared.fault.TapeCause.TheVariants as causes
use Rattle.remote_tape.specs.declared.fault.TapeFault.{TapeFault}
use Rattle.remote_tape.specs.declared.peer.Passed.{Passed}
use Rattle.remote_tape.specs.declared.mark_search.MarkSearch.{MarkSearch}
use Rattle.remote_tape.specs.declared.mark_search.MarkSearch.TheVariants.{Found, Missing, Refused, TooManyRecords}

-- the close, and nothing after it; like each `next_` below, this gives the next request after the
-- replies to those before it, or None at the end
abbrev pub next_close : List PlainReply → Option PlainRequest
next_close [] = Some Close
next_close (closed ∷ more) = None

-- the next request, after these replies, when the search spaces over the mark behind the last record;
-- `at_mark` gives what follows once that is done; the close if the space is refused
abbrev pub next_over : (List PlainReply → Option PlainRequest) → List PlainReply → Option PlainRequest
next_over at_mark [] = Some (Op MTFSF 1)
next_over at_mark (Done k ∷ replies) = at_mark replies
next_over at_mark (Error k text ∷ replies) = next_close replies
next_over at_mark (Data bytes ∷ replies) = None

-- the next request, after these replies, when the search spaces forward over the `n` records and then
-- over the mark, where `at_mark` gives what follows; the close if a space is refused; None at the
-- end, or if a reply does not fit
abbrev pub next_forward : (List PlainReply → Option PlainRequest) → ℕ → List PlainReply → Option PlainRequest
next_forward at_mark n [] = Some (Op MTFSR n)
next_forward at_mark n (Done k ∷ replies) = next_over at_mark replies
next_forward at_mark n (Error k text ∷ replies) = next_close replies
next_forward at_mark n (Data bytes ∷ replies) = None

-- the next request, after these replies, when the search rewinds and then spaces forward over the `n`
-- records and the mark; the close if the rewind is refused, or if `n` records are too many for one
-- request; None at the end, or if a reply does not fit
abbrev pub next_again : (List PlainReply → Option PlainRequest) → ℕ → List PlainReply → Option PlainRequest
next_again at_mark n [] = Some (Op MTREW 1)
next_again at_mark n (Done k ∷ replies) = if nat_lt NUMBER_LIMIT n then next_close replies else next_forward at_mark n replies
next_again at_mark n (Error k text ∷ replies) = next_close replies
next_again at_mark n (Data bytes ∷ replies) = None

-- The next request, after these replies, when the search spaces back over one record. If that is done,
-- there is no mark, and the close is next. If it is refused with EIO, as at a mark, the search rewinds
-- and spaces forward over the `n` records and the mark.
abbrev pub next_back : (List PlainReply → Option PlainRequest) → ℕ → List PlainReply → Option PlainRequest
next_back at_mark n [] = Some (Op MTBSR 1)
next_back at_mark n (Done k ∷ replies) = next_close replies
next_back at_mark n (Error k text ∷ replies) = if nat_eq k EIO then next_again at_mark n replies else next_close replies
next_back at_mark n (Data bytes ∷ replies) = None

-- the records in the replies; the read at a mark adds an empty one
abbrev pub records_of : List PlainReply → List (List ℕ)
records_of [] = []
records_of (Data bytes ∷ replies) = bytes ∷ records_of replies
records_of (Done n ∷ replies) = records_of replies
records_of (Error n text ∷ replies) = records_of replies

-- `request` was made and got `reply`, which is one of `replies`; `next` gives the request that
-- follows some replies
abbrev pub HasReply : (List PlainReply → Option PlainRequest) → List PlainReply → PlainRequest → PlainReply → Type 0
HasReply next replies request reply =
    (before : List PlainReply) × (rest : List PlainReply) × (replies ≡ before ++ reply ∷ rest) × (next before ≡ Some request)

-- a mark ends the records: spacing over it, behind the last record, was done
abbrev pub IsMarkFound : (List PlainReply → Option PlainRequest) → List PlainReply → Type 0
IsMarkFound next replies = (number : ℕ) × HasReply next replies (Op MTFSF 1) (Done number)

-- no mark ends the records: spacing back over a record was done
abbrev pub IsMarkMissing : (List PlainReply → Option PlainRequest) → List PlainReply → Type 0
IsMarkMissing next replies = (number : ℕ) × HasReply next replies (Op MTBSR 1) (Done number)

-- a reply that can stop the search: a refusal, or that of a rewind that was done, after which the
-- records can be too many for one request; it did stop the search if the close is next
abbrev pub StopsTheSearch : PlainRequest → PlainReply → Type 0
StopsTheSearch request (Done n) = request ≡ Op MTREW 1
StopsTheSearch request (Error n text) = Unit {0}
StopsTheSearch request (Data bytes) = ⊥

-- whether a mark ends the records could not be determined: a reply stopped the search, and the
-- close is next
abbrev pub IsUndetermined : (List PlainReply → Option PlainRequest) → List PlainReply → Type 0
IsUndetermined next replies =
    (request : PlainRequest) × (reply : PlainReply) × (before : List PlainReply) × (rest : List PlainReply)
    × (replies ≡ before ++ reply ∷ rest) × (next before ≡ Some request) × (next (before ++ reply ∷ []) ≡ Some Close)
    × StopsTheSearch request reply

-- `b` begins with `a`
abbrev pub IsBeginningOf : List PlainReply → List PlainReply → Type 0
IsBeginningOf a b = (more : List PlainReply) × (b ≡ a ++ more)

-- after `replies`, `next` gives the same requests as `step`, which sees only the replies that come
-- from then on
abbrev pub GoesOnBy : (List PlainReply → Option PlainRequest) → (List PlainReply → Option PlainRequest) → List PlainReply → Type 0
GoesOnBy next step replies = (ends : List PlainReply) → next (replies ++ ends) ≡ step ends

-- the last of the replies is a refusal with this error number, of a request with this name
abbrev pub IsRefusedLast : (List PlainReply → Option PlainRequest) → List PlainReply → TapeRequest → ℕ → Type 0
IsRefusedLast next replies name number =
    (before : List PlainReply) × (text : List ℕ) × (request : PlainRequest) × (replies ≡ before ++ Error number text ∷ [])
    × (next before ≡ Some request) × IsNamed name request

-- further calls were made after `replies`, of which the last got no reply; `fault` names its request
-- and says why; `later` are all replies then
pub record HasNoReply {P : Type 0} (next : List PlainReply → Option PlainRequest) (tells : P → List Passed → Type 0) (p p' : P)
    (replies : List PlainReply) (fault : TapeFault) (later : List PlainReply) : Type 0 where
  pub why : CallFault
  pub cause : fault.cause ≡ causes.NoReply why
  pub finishes : Finishes next tells p p' replies (Some why) later
  pub request : PlainRequest
  pub is_next : next later ≡ Some request
  pub names : IsNamed fault.request request

-- The result of a search for the mark after `replies`; `next` gives the request that follows some
-- replies. `later` are all replies that came until then; those of the search have no record. Found:
-- `at_mark` gives the next requests. Missing, and where the mark was given up: the close is next.
-- Err: a request got no reply.
abbrev pub HasSought : {P : Type 0} → (List PlainReply → Option PlainRequest) → (List PlainReply → Option PlainRequest) → (P → List Passed → Type 0)
    → P → P → List PlainReply → List PlainReply → Result MarkSearch TapeFault → Type 0
HasSought next at_mark tells p p' replies later (Ok Found) =
    Extends next tells p p' replies later × GoesOnBy next at_mark later × IsMarkFound next later
HasSought next at_mark tells p p' replies later (Ok Missing) =
    Extends next tells p p' replies later × GoesOnBy next next_close later × IsMarkMissing next later
HasSought next at_mark tells p p' replies later (Ok (Refused name number)) =
    Extends next tells p p' replies later × GoesOnBy next next_close later × IsUndetermined next later
    × IsRefusedLast next later name number
HasSought next at_mark tells p p' replies later (Ok TooManyRecords) =
    Extends next tells p p' replies later × GoesOnBy next next_close later × IsUndetermined next later
HasSought next at_mark tells p p' replies later (Err fault) = HasNoReply next tells p p' replies fault later

-- Whenever `step` gives the next requests, and `at_mark` those after the mark, this is the result
-- of the search. Its requests get no record.
abbrev pub IsSought : {P : Type 0} → ((List PlainReply → Option PlainRequest) → List PlainReply → Option PlainRequest)
    → (P → List Passed → Type 0) → P → P → Result MarkSearch TapeFault → Type 0
IsSought step tells p p' result =
    (at_mark : List PlainReply → Option PlainRequest) (next : List PlainReply → Option PlainRequest) (replies : List PlainReply)
    → GoesOnBy next (step at_mark) replies
    → (later : List PlainReply) × (records_of later ≡ records_of replies) × IsBeginningOf replies later
    × HasSought next at_mark tells p p' replies later result

-- the result of a search whose request failed with this fault, for this cause
abbrev pub given_up_for : TapeFault → TapeCause → Result MarkSearch TapeFault
given_up_for fault (causes.Refused number) = Ok (Refused fault.request number)
given_up_for fault (causes.NoReply why) = Err fault

-- the result of a search whose request failed with this fault
abbrev pub given_up : TapeFault → Result MarkSearch TapeFault
given_up fault = given_up_for fault fault.cause
