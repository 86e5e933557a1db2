-- A look at the beginning of a drive's first reel: its requests, and what it finds. A plain value
-- is what contracts use for a value that the code has in memory. A peer is the far end of a
-- connection: what is sent over it goes through that connection. `p` and `p'` are the peer before
-- and after, and `tells` relates a peer to what passed so far. Public contracts cite it.
use Rattle.std.specs.Prelude.{◌≡◌, ℕ, List, [], ◌∷◌, Option, Some, None, Result, Ok, Err, if◌then◌else◌, nat_eq}
use Rattle.dump_run.specs.Label.{label_bytes}
use Rattle.rmt_wire.specs.declared.errno.TheConstants.{EIO}
use Rattle.rmt_wire.specs.declared.fcntl.TheConstants.{O_RDONLY}
use Rattle.rmt_wire.specs.declared.mtio.TheConstants.{MTFSF, MTREW}
use Rattle.rmt_wire.specs.Reply.{PlainReply}
use Rattle.rmt_wire.specs.Reply.PlainReply.{Done, Data, Error}
use Rattle.rmt_wire.specs.Request.{PlainRequest}
use Rattle.rmt_wire.specs.Request.PlainRequest.{Open, Close, Read, Op}
use Rattle.remote_tape.specs.Calls.{Stops, Extends, Finishes}
use Rattle.remote_tape.specs.Peer.{Logs}
use Rattle.remote_tape.specs.declared.fault.CallFault.{CallFault}
use Rattle.rdump_net.specs.declared.look.ReelFront.{ReelFront}
use Rattle.rdump_net.specs.declared.look.ReelFront.TheVariants as fronts
use Rattle.refusals.specs.declared.request.TapeRequest.{TapeRequest}
use Rattle.refusals.specs.declared.request.TapeRequest.TheVariants as asked
use Rattle.remote_tape.specs.declared.fault.CallFault.TheVariants.{OutOfMemory}
use Rattle.remote_tape.specs.declared.fault.TapeCause.{TapeCause}
use Rattle.remote_tape.specs.declared.fault.TapeCause.TheVariants.{Refused, NoReply}
use Rattle.remote_tape.specs.declared.fault.TapeFault.{TapeFault}
use Rattle.remote_tape.specs.declared.peer.Passed.{Passed}

-- the beginning of a reel: a record with these bytes, a mark, or nothing
pub data PlainFront : Type 0 where
  Record : List ℕ → PlainFront
  Mark : PlainFront
  Empty : PlainFront

-- the plain value of a `ReelFront`
abbrev pub plain_front : ReelFront → PlainFront
plain_front (fronts.Record bytes) = Record bytes.items
plain_front fronts.Mark = Mark
plain_front fronts.Empty = Empty

-- what a look finds: the beginning of the reel, or that this request was refused with this number
pub data Finding : Type 0 where
  Front : PlainFront → Finding
  Refusal : TapeRequest → ℕ → Finding

-- The stages of a look, each named for its next request: the open, the rewind, the read. If the
-- read returned no bytes, the rewind again and spacing over a mark. Then the close, and then
-- nothing.
pub data LookStage : Type 0 where
  Opening : LookStage
  Rewinding : LookStage
  Reading : LookStage
  RewindingAgain : LookStage
  Spacing : LookStage
  Closing : Finding → LookStage
  Closed : Finding → LookStage

-- the request that a stage makes, if it makes one
abbrev pub request_at : List ℕ → LookStage → Option PlainRequest
request_at device Opening = Some (Open device O_RDONLY)
request_at device Rewinding = Some (Op MTREW 1)
request_at device Reading = Some (Read label_bytes)
request_at device RewindingAgain = Some (Op MTREW 1)
request_at device Spacing = Some (Op MTFSF 1)
request_at device (Closing finding) = Some Close
request_at device (Closed finding) = None

-- the stage after a read: no bytes mean a mark or the end of the reel
abbrev pub after_read : List ℕ → LookStage
after_read [] = RewindingAgain
after_read (b ∷ bytes) = Closing (Front (Record (b ∷ bytes)))

-- the stage after spacing over a mark was refused with error `n`: with EIO there is no mark, and
-- the reel is empty
abbrev pub after_space : ℕ → LookStage
after_space n = if nat_eq n EIO then Closing (Front Empty) else Closing (Refusal asked.Space n)

-- the stage after the close was refused: the earlier finding stays if it is a refusal, else the
-- refused close is the finding
abbrev pub after_close : Finding → ℕ → LookStage
after_close (Front front) n = Closed (Refusal asked.Close n)
after_close (Refusal named number) n = Closed (Refusal named number)

-- the stage after a reply; a reply of the wrong kind does not occur
abbrev pub stage_then : LookStage → PlainReply → LookStage
stage_then Opening (Error n text) = Closed (Refusal asked.Open n)
stage_then Opening reply = Rewinding
stage_then Rewinding (Error n text) = Closing (Refusal asked.Rewind n)
stage_then Rewinding reply = Reading
stage_then Reading (Data bytes) = after_read bytes
stage_then Reading (Error n text) = Closing (Refusal asked.Read n)
stage_then Reading (Done n) = RewindingAgain
stage_then RewindingAgain (Error n text) = Closing (Refusal asked.Rewind n)
stage_then RewindingAgain reply = Spacing
stage_then Spacing (Error n text) = after_space n
stage_then Spacing reply = Closing (Front Mark)
stage_then (Closing finding) (Error n text) = after_close finding n
stage_then (Closing finding) reply = Closed finding
stage_then (Closed finding) reply = Closed finding

-- the stage after these replies, beginning at `stage`
abbrev pub stage_from : LookStage → List PlainReply → LookStage
stage_from stage [] = stage
stage_from stage (reply ∷ replies) = stage_from (stage_then stage reply) replies

-- the stage after all replies so far
abbrev pub stage_after : List PlainReply → LookStage
stage_after replies = stage_from Opening replies

-- the next request after these replies
abbrev pub next_of : List ℕ → List PlainReply → Option PlainRequest
next_of device replies = request_at device (stage_after replies)

-- How a look ends that failed for this cause: all requests were made, and the one with this name was
-- refused; or the next request gets no reply.
abbrev pub LookFails : List ℕ → List PlainReply → List Passed → TapeRequest → TapeCause → Type 0
LookFails device replies passed name (Refused number) =
    Stops (next_of device) None replies passed × (stage_after replies ≡ Closed (Refusal name number))
LookFails device replies passed name (NoReply why) = Stops (next_of device) (Some why) replies passed

-- how a look ends: all requests were made and this was found, or it failed
abbrev pub LookEnds : List ℕ → List PlainReply → List Passed → Result ReelFront TapeFault → Type 0
LookEnds device replies passed (Ok front) = Stops (next_of device) None replies passed × (stage_after replies ≡ Closed (Front (plain_front front)))
LookEnds device replies passed (Err fault) = LookFails device replies passed fault.request fault.cause

-- what a look does over a peer, and its result
pub record IsLook {P : Type 0} (tells : P → List Passed → Type 0) (device : List ℕ) (p p' : P) (result : Result ReelFront TapeFault) : Type 0 where
  pub replies : List PlainReply
  pub passed : List Passed
  pub logs : Logs tells p p' passed
  pub ends : LookEnds device replies passed result

-- whenever the look is at the stage `from`, it makes further calls, after which it is at the stage
-- `to`
abbrev pub Goes : {P : Type 0} → (P → List Passed → Type 0) → List ℕ → LookStage → LookStage → P → P → Type 0
Goes tells device from to p p' =
    (replies : List PlainReply) → stage_after replies ≡ from
    → (later : List PlainReply) × Extends (next_of device) tells p p' replies later × (stage_after later ≡ to)

-- whenever the look is at the stage `from`, it makes further calls, of which the last gets no
-- reply, for the reason `fault`
abbrev pub Fails : {P : Type 0} → (P → List Passed → Type 0) → List ℕ → LookStage → CallFault → P → P → Type 0
Fails tells device from fault p p' =
    (replies : List PlainReply) → stage_after replies ≡ from
    → (later : List PlainReply) × Finishes (next_of device) tells p p' replies (Some fault) later

-- From the stage `from` on the look makes further calls. It comes to the stage that has the refusal
-- of the request with this name, or a call gets no reply.
abbrev pub IsFailedPart : {P : Type 0} → (P → List Passed → Type 0) → List ℕ → LookStage → (Finding → LookStage) → P → P
    → TapeRequest → TapeCause → Type 0
IsFailedPart tells device from to p p' name (Refused number) = Goes tells device from (to (Refusal name number)) p p'
IsFailedPart tells device from to p p' name (NoReply why) = Fails tells device from why p p'

-- From the stage `from` on the look makes further calls, up to the stage that `to` gives for what
-- it found: the front of the reel, or that a call was refused. Or a call gets no reply.
abbrev pub IsLookPart : {P : Type 0} → (P → List Passed → Type 0) → List ℕ → LookStage → (Finding → LookStage) → P → P
    → Result ReelFront TapeFault → Type 0
IsLookPart tells device from to p p' (Ok front) = Goes tells device from (to (Front (plain_front front))) p p'
IsLookPart tells device from to p p' (Err fault) = IsFailedPart tells device from to p p' fault.request fault.cause

-- the beginning of the first record was kept, or an allocation for it failed
abbrev pub IsRecordKept : List ℕ → Result ReelFront TapeFault → Type 0
IsRecordKept bytes (Ok front) = plain_front front ≡ Record bytes
IsRecordKept bytes (Err fault) = (fault.request ≡ asked.Read) × (fault.cause ≡ NoReply OutOfMemory)
