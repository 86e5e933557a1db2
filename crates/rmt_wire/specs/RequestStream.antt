-- Reading the next request of a stream: what is returned, and what is left. A plain value is what
-- contracts use for a value that the code has in memory. Public contracts cite it.
use Rattle.std.specs.Prelude.{◌≡◌, ◌≢◌, ℕ, ◌+◌, ◌*◌, ◌<◌, List, [], ◌∷◌, ◌++◌, length, Option, Some, None, Result, Ok, Err}
use Rattle.std.specs.List.{flat_map}
use Rattle.std.specs.Io.KnownBytes.{Appends, Consumes, IsAtEnd}
use Rattle.rmt_wire.specs.Counted.{raised}
use Rattle.rmt_wire.specs.Request.{PlainRequest, SpellsRequest}
use Rattle.rmt_wire.specs.RequestParts.{IsRequestPrefix, HasNoSpelling, HasFault, Spelled}
use Rattle.rmt_wire.specs.RequestReader.{RequestHeld, Unread, IsGiven}
use Rattle.rmt_wire.specs.ReplyWriter.{AppendsBeginning}
use Rattle.rmt_wire.specs.Lent.{plain_request}
use Rattle.rmt_wire.specs.declared.limits.TheConstants.{READER_LIMIT}
use Rattle.rmt_wire.specs.declared.request.Request.{Request}
use Rattle.rmt_wire.specs.declared.request.reader.stream.StreamFault.{StreamFault}
use Rattle.rmt_wire.specs.declared.request.reader.stream.StreamFault.TheVariants.{Truncated, Broken, Input}

-- the result of `read_next`, with the plain value of its request
abbrev pub plain_read_next_result : Result (Option Request) StreamFault → Result (Option PlainRequest) StreamFault
plain_read_next_result (Ok None) = Ok None
plain_read_next_result (Ok (Some request)) = Ok (Some (plain_request request))
plain_read_next_result (Err fault) = Err fault

-- Why a stream has no further request, by the rest after the last complete one. At the end of the
-- stream the rest is empty, or with `Truncated` a beginning of a request. With `Broken` it is no
-- request. With `Input`, after a failed read, it is a beginning of a request, perhaps empty.
abbrev pub EndsAs : Result Unit StreamFault → Option (List ℕ) → List ℕ → Type 0
EndsAs (Ok done) left rest = (rest ≡ []) × IsAtEnd left
EndsAs (Err Truncated) left rest = (rest ≢ []) × IsRequestPrefix rest × HasNoSpelling rest × IsAtEnd left
EndsAs (Err (Broken fault)) left rest = HasFault rest fault × HasNoSpelling rest
EndsAs (Err Input) left rest = IsRequestPrefix rest × HasNoSpelling rest

-- of all bytes pushed these requests were returned, and the stream has no further one
abbrev pub IsGivenWhole : Result Unit StreamFault → Option (List ℕ) → RequestHeld → List ℕ → List PlainRequest → Type 0
IsGivenWhole end left held pushed requests =
    (rest : List ℕ) × Unread held rest × Spelled pushed requests rest × EndsAs end left rest

-- the request is the next one of all bytes pushed; if there is none, the stream has no further one
abbrev pub GivesNext : Result (Option PlainRequest) StreamFault → Option (List ℕ) → RequestHeld → List ℕ → List PlainRequest → Type 0
GivesNext (Ok (Some request)) left new pushed requests = IsGiven new pushed (requests ++ request ∷ [])
GivesNext (Ok None) left new pushed requests = IsGivenWhole (Ok tt) left new pushed requests
GivesNext (Err fault) left new pushed requests = IsGivenWhole (Err fault) left new pushed requests

-- a request that was returned has a spelling
abbrev pub IsSpelledIfSome : Result (Option PlainRequest) StreamFault → Type 0
IsSpelledIfSome (Ok (Some request)) = (text : List ℕ) × SpellsRequest text request
IsSpelledIfSome (Ok None) = Unit {0}
IsSpelledIfSome (Err fault) = Unit {0}

-- A conversation. Bytes came from a stream that had `first` left before them and has `left` now.
-- They were returned as requests, and the replies to exactly these were written, in their order.
pub record Answers (answer : PlainRequest → List ℕ) (first left : Option (List ℕ)) (IsGivenAs : List ℕ → List PlainRequest → Type 0)
    (Writes : List ℕ → Type 0) : Type 0 where
  pub read : List ℕ
  pub requests : List PlainRequest
  pub consumed : Consumes first left read
  pub given : IsGivenAs read requests
  pub written : Writes (flat_map answer requests)

-- A conversation between two requests. `first` is what the stream of requests had at the start, and
-- `left` what it has now; `output` and `output'` are what the output had then and has now. All are
-- None if they are unknown. The reader `held` holds the bytes after the last request, and `answer`
-- gives the replies that the output has.
abbrev pub HasAnswered : (PlainRequest → List ℕ) → (first left : Option (List ℕ)) → RequestHeld
    → (output output' : Option (List ℕ)) → Type 0
HasAnswered answer first left held output output' = Answers answer first left (IsGiven held) (Appends output output')

-- a conversation at the end of its stream of requests: the output has the replies
abbrev pub HasAnsweredAll : Result Unit StreamFault → (PlainRequest → List ℕ) → (first left : Option (List ℕ)) → RequestHeld
    → (output output' : Option (List ℕ)) → Type 0
HasAnsweredAll end answer first left held output output' =
    Answers answer first left (IsGivenWhole end left held) (Appends output output')

-- a conversation in which a beginning of the replies was written
abbrev pub HasBegunToAnswer : (PlainRequest → List ℕ) → (first left : Option (List ℕ)) → RequestHeld
    → (output output' : Option (List ℕ)) → Type 0
HasBegunToAnswer answer first left held output output' =
    Answers answer first left (IsGiven held) (AppendsBeginning output output')

-- the conversation continues with the reply to the request; if there is no request, it has ended
abbrev pub GoesOn : Result (Option PlainRequest) StreamFault → (PlainRequest → List ℕ) → (first left : Option (List ℕ)) → RequestHeld
    → (output output' : Option (List ℕ)) → Type 0
GoesOn (Ok (Some request)) answer first left held output output' =
    ((output'' : Option (List ℕ)) → Appends output' output'' (answer request) → HasAnswered answer first left held output output'')
    × ((output'' : Option (List ℕ)) → AppendsBeginning output' output'' (answer request)
    → HasBegunToAnswer answer first left held output output'')
GoesOn (Ok None) answer first left held output output' = HasAnsweredAll (Ok tt) answer first left held output output'
GoesOn (Err fault) answer first left held output output' = HasAnsweredAll (Err fault) answer first left held output output'

-- a number that decreases with each request: each read left counts for more than all bytes that a
-- reader can hold
abbrev pub most_left : ℕ → RequestHeld → ℕ
most_left reads held = reads * (READER_LIMIT + 1) + length held.kept

-- the number has decreased if a request was returned
abbrev pub FallsIfSome : Result (Option PlainRequest) StreamFault → ℕ → ℕ → Type 0
FallsIfSome (Ok (Some request)) before now = now < before
FallsIfSome (Ok None) before now = Unit {0}
FallsIfSome (Err fault) before now = Unit {0}

-- One call of `read_next`. Bytes came from the stream, and the next request of all bytes is
-- returned. Call after call, the requests returned are those that the bytes spell, and a
-- conversation continues. The unread bytes are known afterwards, so that it can be called again.
pub record IsReadNext (left left' : Option (List ℕ)) (reads reads' : ℕ) (old : RequestHeld)
    (result : Result (Option PlainRequest) StreamFault) (new : RequestHeld) : Type 0 where
  pub came : List ℕ
  pub consumed : Consumes left left' came
  pub gives_on : (pushed : List ℕ) (requests : List PlainRequest) → IsGiven old pushed requests
      → GivesNext result left' new (pushed ++ came) requests
  -- for a proof about a loop over `read_next`, which needs no lists of requests and replies
  pub answers : (answer : PlainRequest → List ℕ) (first output output' : Option (List ℕ)) → HasAnswered answer first left old output output'
      → GoesOn result answer first left' new output output'
  pub unread : (bytes : List ℕ) × Unread new bytes
  pub spelled : IsSpelledIfSome result
  -- so a loop over `read_next` ends
  pub falls : FallsIfSome result (most_left reads old) (most_left reads' new)

-- a failure was counted if and only if the result is `Input`
abbrev pub CountsNext : Result (Option PlainRequest) StreamFault → ℕ → ℕ → Type 0
CountsNext (Err Input) failures failures' = failures' ≡ raised failures
CountsNext answer failures failures' = failures' ≡ failures
