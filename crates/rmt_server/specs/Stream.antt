-- What a server does with a stream of requests. `k` has the promises of the kinds of holds, stacks
-- and reels. `kind` gives the contents of the two streams, if they are specified. Public contracts
-- cite it.
use Rattle.std.specs.Prelude.{◌≡◌, ◌≢◌, ℕ, ◌<◌, Bool, List, [], ◌∷◌, ◌++◌, map, take, Option, Some, None, Result, Ok, Err}
use Rattle.std.specs.List.{flat_map}
use Rattle.std.specs.Io.KnownBytes.{Appends, Consumes, IsAtEnd}
use Rattle.std.specs.declared.io.traits.Read.{Ghosts as ReadPromise}
use Rattle.std.specs.declared.io.traits.Write.{Ghosts as WritePromise}
use Rattle.rmt_wire.specs.Request.{PlainRequest}
use Rattle.rmt_wire.specs.Reply.{PlainReply, ReplyHasSpelling, reply_text}
use Rattle.rmt_wire.specs.RequestParts.{IsRequestPrefix, HasNoSpelling, Spelled, HasFault}
use Rattle.rmt_wire.specs.Counted.{Counting, HasRisen}
use Rattle.rmt_wire.specs.RequestReader.{RequestHeld, Unread, taken_of}
use Rattle.rmt_wire.specs.declared.limits.TheConstants.{READER_LIMIT}
use Rattle.rmt_wire.specs.declared.fault.WireFault.{WireFault}
use Rattle.rmt_wire.specs.declared.reply.writer.OutputFault.{OutputFault}
use Rattle.drives.specs.declared.table.DriveTable.{DriveTable}
use Rattle.drives.specs.Opening.{Kinds}
use Rattle.rmt_server.specs.declared.stream.Served.{Served}
use Rattle.rmt_server.specs.declared.stream.Served.TheVariants.{End, Truncated, Broken}
use Rattle.rmt_server.specs.declared.stream.ServeFault.{ServeFault}
use Rattle.rmt_server.specs.declared.stream.ServeFault.TheVariants.{Input, Output}
use Rattle.rmt_server.specs.declared.session.session_state.SessionState.{SessionState}
use Rattle.rmt_server.specs.Session.{SessionView, closed, ServeRun}
use Rattle.rmt_server.specs.State.{State, state, HasView}
use Rattle.rmt_server.specs.Opening.{IsClosed}
use Rattle.rmt_server.specs.Carrying.{IsCarriedOut, MayFail, MayShare}

-- a request with its reply
abbrev pub Exchange : Type 0
Exchange = PlainRequest × PlainReply

-- the requests of these exchanges
abbrev pub requests_of : List Exchange → List PlainRequest
requests_of done = map (λ e. e.0) done

-- the bytes that are written: the spellings of the replies, joined
abbrev pub replies_text : List Exchange → List ℕ
replies_text done = flat_map (λ e. reply_text e.1) done

-- requests carried out one after another, with replies that have a spelling; contents may be
-- unspecified
pub data CarryRun {H S Seat R : Type 0} (k : Kinds H Seat S R) (start : State H S Seat R) : List Exchange → State H S Seat R → Type 0 where
  none : CarryRun k start [] start
  one_more : {done : List Exchange} {between after : State H S Seat R} (request : PlainRequest) (reply : PlainReply)
      → CarryRun k start done between → IsCarriedOut k between request reply after → ReplyHasSpelling reply
      → CarryRun k start (done ++ (request, reply) ∷ []) after

-- The bytes are the spellings of the requests of `done`, then `rest`. The replies of `done` were
-- written in order, to an output that had `known` before and has `known'` after, if these are
-- known.
pub record IsAnswered (known known' : Option (List ℕ)) (bytes : List ℕ) (done : List Exchange) (rest : List ℕ) : Type 0 where
  pub spelled : Spelled bytes (requests_of done) rest
  pub written : Appends known known' (replies_text done)

-- The bytes are the spellings of these requests, then the rest. The replies to the requests were
-- written in order, and of the last reply only a beginning.
pub record IsCutOff (known known' : Option (List ℕ)) (bytes : List ℕ) (done : List Exchange) (rest : List ℕ) : Type 0 where
  pub spelled : Spelled bytes (requests_of done) rest
  pub before : List Exchange
  pub last : Exchange
  pub split : done ≡ before ++ last ∷ []
  pub count : ℕ
  pub written : Appends known known' (replies_text before ++ take count (reply_text last.1))

-- Requests were carried out, with an outcome.
pub record Advances {H S Seat R : Type 0} (k : Kinds H Seat S R) (old new : State H S Seat R)
    (Outcome : List Exchange → List ℕ → Type 0) : Type 0 where
  pub done : List Exchange
  pub rest : List ℕ
  pub run : CarryRun k old done new
  pub outcome : Outcome done rest

-- `rest`, the unread bytes of the reader `wire`, is a beginning of a request but not a whole one,
-- and there is room for what is missing.
pub record IsSettled (wire : RequestHeld) (rest : List ℕ) : Type 0 where
  pub unread : Unread wire rest
  pub begins : IsRequestPrefix rest
  pub none : HasNoSpelling rest
  pub room : taken_of rest < READER_LIMIT

-- whatever bytes follow, the rest is no request, and `fault` is the reason
abbrev pub IsFaulty : List ℕ → WireFault → Type 0
IsFaulty rest fault = (more : List ℕ) → HasFault (rest ++ more) fault × HasNoSpelling (rest ++ more)

-- what happened to the bytes that a reader of requests held: which were answered, and which remain
abbrev pub AnswersAs : {W : Type 0} → (W → Option (List ℕ)) → Result (Option WireFault) OutputFault → Counting W → Counting W → RequestHeld
    → List ℕ → List Exchange → List ℕ → Type 0
AnswersAs contents (Ok None) output output' wire bytes done rest =
    IsAnswered (contents output.inner) (contents output'.inner) bytes done rest × IsSettled wire rest
AnswersAs contents (Ok (Some fault)) output output' wire bytes done rest =
    IsAnswered (contents output.inner) (contents output'.inner) bytes done rest × IsFaulty rest fault
AnswersAs contents (Err failed) output output' wire bytes done rest =
    IsCutOff (contents output.inner) (contents output'.inner) bytes done rest × HasRisen output.failures output'.failures

-- the two streams of a session, each with its count of failures
pub record Streams (In Out : Type 0) : Type 0 where
  pub input : Counting In
  pub output : Counting Out

-- builds Streams from its parts
abbrev pub streams : {In Out : Type 0} → Counting In → Counting Out → Streams In Out
streams input output = record { input = input; output = output }

-- The contents of streams of these types, if specified: the bytes that remain in an input, and
-- those written to an output.
pub record StreamsKind (In Out : Type 0) : Type 0 where
  pub remaining : In → Option (List ℕ)
  pub contents : Out → Option (List ℕ)

-- builds a StreamsKind from its parts
abbrev pub streams_kind : {In Out : Type 0} → (In → Option (List ℕ)) → (Out → Option (List ℕ)) → StreamsKind In Out
streams_kind remaining contents = record { remaining = remaining; contents = contents }

-- these bytes were read from the input between `old` and `new`
abbrev pub AreRead : {In Out : Type 0} → StreamsKind In Out → Streams In Out → Streams In Out → List ℕ → Type 0
AreRead kind old new read = Consumes (kind.remaining old.input.inner) (kind.remaining new.input.inner) read

-- `read`, the bytes that were read between `old` and `new`, are the requests of `done` and then
-- `rest`, and all replies of `done` were written
abbrev pub AreAnswered : {In Out : Type 0} → StreamsKind In Out → Streams In Out → Streams In Out → List ℕ → List Exchange → List ℕ → Type 0
AreAnswered kind old new read done rest = IsAnswered (kind.contents old.output.inner) (kind.contents new.output.inner) read done rest

-- How serving ends, by what follows the last whole request. At `End` nothing follows, and at
-- `Truncated` a beginning of a request does. In both cases the input is at its end. At `Broken` the
-- bytes are no request. `Input` and `Output` are returned only if that stream failed.
abbrev pub EndsAs : {In Out : Type 0} → StreamsKind In Out → Result Served ServeFault → Streams In Out → Streams In Out
    → List ℕ → List Exchange → List ℕ → Type 0
EndsAs kind (Ok End) old new read done rest =
    AreAnswered kind old new read done rest × (rest ≡ []) × IsAtEnd (kind.remaining new.input.inner)
EndsAs kind (Ok Truncated) old new read done rest =
    AreAnswered kind old new read done rest
    × (rest ≢ []) × IsRequestPrefix rest × HasNoSpelling rest × IsAtEnd (kind.remaining new.input.inner)
EndsAs kind (Ok (Broken fault)) old new read done rest =
    AreAnswered kind old new read done rest × HasFault rest fault × HasNoSpelling rest
EndsAs kind (Err Input) old new read done rest =
    AreAnswered kind old new read done rest
    × IsRequestPrefix rest × HasNoSpelling rest × HasRisen old.input.failures new.input.failures
EndsAs kind (Err Output) old new read done rest =
    IsCutOff (kind.contents old.output.inner) (kind.contents new.output.inner) read done rest
    × HasRisen old.output.failures new.output.failures

-- no read and no write failed
abbrev pub NoneFailed : {In Out : Type 0} → Streams In Out → Streams In Out → Type 0
NoneFailed old new = (new.input.failures ≡ old.input.failures) × (new.output.failures ≡ old.output.failures)

-- A session that is serving, at one moment: the source of its requests, the output for its replies,
-- and its state.
pub record Serving (From Out H S Seat R : Type 0) : Type 0 where
  pub requests : From
  pub replies : Counting Out
  pub state : State H S Seat R

-- builds a Serving from its parts
abbrev pub serving : {From Out H S Seat R : Type 0} → From → Counting Out → DriveTable H S Seat R → SessionState Seat R → Serving From Out H S Seat R
serving requests replies drives session_state = record { requests = requests; replies = replies; state = state drives session_state }

-- requests in these bytes were carried out, with the outcome for the reader's remaining bytes
abbrev pub AnswersFrom : {Out H S Seat R : Type 0} → Kinds H Seat S R → WritePromise Out → Result (Option WireFault) OutputFault
    → Serving RequestHeld Out H S Seat R → Serving RequestHeld Out H S Seat R → List ℕ → Type 0
AnswersFrom k output result old new bytes =
    Advances k old.state new.state (AnswersAs output.contents result old.replies new.replies new.requests bytes)

-- requests in the bytes that the reader held were carried out, with the outcome for the bytes that
-- it still holds
abbrev pub AnswersUnread : {Out H S Seat R : Type 0} → Kinds H Seat S R → WritePromise Out → Result (Option WireFault) OutputFault
    → Serving RequestHeld Out H S Seat R → Serving RequestHeld Out H S Seat R → Type 0
AnswersUnread k output result old new = (bytes : List ℕ) → Unread old.requests bytes → AnswersFrom k output result old new bytes

-- the two streams of a session that is serving
abbrev pub streams_of : {In Out H S Seat R : Type 0} → Serving (Counting In) Out H S Seat R → Streams In Out
streams_of x = streams x.requests x.replies

-- bytes were read and requests were carried out, until serving ended with this result
abbrev pub ConversesAs : {In Out H S Seat R : Type 0} → Kinds H Seat S R → ReadPromise In → WritePromise Out → Result Served ServeFault
    → Serving (Counting In) Out H S Seat R → Serving (Counting In) Out H S Seat R → Type 0
ConversesAs k input output result old new =
    let kind = streams_kind input.remaining output.contents in
    (read : List ℕ) × AreRead kind (streams_of old) (streams_of new) read
    × Advances k old.state new.state (EndsAs kind result (streams_of old) (streams_of new) read)

-- The result of serving: the bytes that were read, the requests with their replies, and the bytes
-- that follow. The open device was closed after that. If the contents of stacks and reel are
-- specified, the exchanges are a run of serve steps.
pub record IsServedAs {H S Seat R In Out : Type 0} (k : Kinds H Seat S R) (kind : StreamsKind In Out) (result : Result Served ServeFault)
    (old_streams new_streams : Streams In Out) (old new : State H S Seat R) : Type 0 where
  pub read : List ℕ
  pub done : List Exchange
  pub rest : List ℕ
  pub consumed : AreRead kind old_streams new_streams read
  pub ends : EndsAs kind result old_streams new_streams read done rest
  pub last : State H S Seat R
  pub run : CarryRun k old done last
  pub ended : IsClosed k last new
  -- the seat keeps its number, and no seat number is assigned
  pub number : (k.holds.shows new.seat).number ≡ (k.holds.shows old.seat).number
  pub same_seats : k.holds.seated new.drives.holds ≡ k.holds.seated old.drives.holds
  pub steps : (fails shared : Bool) → MayFail k old fails → MayShare k old shared → (start : SessionView) → HasView k old start
      → (finish : SessionView) × ServeRun fails shared k.reels.GROWS start done finish × k.stacks.holds new.drives.stacks (closed finish).library

-- The result of serving the two streams of a session: the bytes that were read, the requests with
-- their replies, and the bytes that follow. The open device was closed after that.
abbrev pub ServesAs : {In Out H S Seat R : Type 0} → Kinds H Seat S R → ReadPromise In → WritePromise Out → Result Served ServeFault
    → Serving (Counting In) Out H S Seat R → Serving (Counting In) Out H S Seat R → Type 0
ServesAs k input output result old new =
    IsServedAs k (streams_kind input.remaining output.contents) result (streams_of old) (streams_of new) old.state new.state
