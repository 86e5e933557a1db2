-- A request to a peer, and its reply. A peer is the far end of a connection: what is sent over it
-- goes through that connection. `p` and `p'` are the peer before and after, and `tells` relates a
-- peer to what passed so far. A plain value is what contracts use for a value that the code has in
-- memory. Public contracts cite it.
use Rattle.std.specs.Prelude.{◌≡◌, ◌≢◌, ◌⊎◌, ◌≤◌, ◌<◌, ◌+◌, ◌-◌, ◌^◌, ℕ, false, List, [], ◌∷◌, ◌++◌, map, length, take, Option, Some, None, Result, Ok, Err}
use Rattle.rmt_wire.specs.declared.limits.TheConstants.{READER_LIMIT}
use Rattle.rmt_wire.specs.Lent.{plain_reply}
use Rattle.rmt_wire.specs.Reply.{PlainReply, Wanted, SpellsReply}
use Rattle.rmt_wire.specs.Reply.PlainReply.{Done, Data, Error}
use Rattle.rmt_wire.specs.Reply.Wanted.{Number, DataUpTo}
use Rattle.rmt_wire.specs.ReplyParts.{ReplyParsesAs}
use Rattle.rmt_wire.specs.ReplyReader.{ReplyHeld, ReplyUnread, reply_taken_of}
use Rattle.rmt_wire.specs.Request.{PlainRequest, request_text}
use Rattle.rmt_wire.specs.Request.PlainRequest.{Open, Close, Write, WriteDropped, Read, Op}
use Rattle.rmt_wire.specs.declared.fault.WireFault.{WireFault}
use Rattle.rmt_wire.specs.declared.reply.Reply.{Reply}
use Rattle.remote_tape.specs.Peer.{AreBytesSent, Logs, given}
use Rattle.remote_tape.specs.declared.reply.TapeReply.{TapeReply}
use Rattle.remote_tape.specs.declared.reply.TapeReply.TheVariants as kept
use Rattle.remote_tape.specs.declared.fault.CallFault.{CallFault}
use Rattle.remote_tape.specs.declared.fault.CallFault.TheVariants.{ConnectionEnded, Botched, OutOfMemory}
use Rattle.remote_tape.specs.declared.peer.Passed.{Passed}
use Rattle.remote_tape.specs.declared.peer.Passed.TheVariants.{Sent, Given, Ended}

-- the kept reply is this one, without the data of a read, of which only the number is kept
abbrev pub Answers : TapeReply → PlainReply → Type 0
Answers (kept.Done n) (Done number) = n ≡ number
Answers (kept.Done n) (Data bytes) = n ≡ length bytes
Answers (kept.Done n) (Error number text) = ⊥
Answers (kept.Error n line) (Done number) = ⊥
Answers (kept.Error n line) (Data bytes) = ⊥
Answers (kept.Error n line) (Error number text) = (n ≡ number) × (line.items ≡ text)

-- the plain value of a reply that is a number or an error
abbrev pub plain_number : TapeReply → PlainReply
plain_number (kept.Done n) = Done n
plain_number (kept.Error n text) = Error n text.items

-- the result of a call whose reply is a number or an error, with the plain value of the reply
abbrev pub plain_result : Result TapeReply CallFault → Result PlainReply CallFault
plain_result (Ok reply) = Ok (plain_number reply)
plain_result (Err fault) = Err fault

-- the result of a call that lends its reply, with the plain value of the reply
abbrev pub lent_result : Result Reply CallFault → Result PlainReply CallFault
lent_result (Ok reply) = Ok (plain_reply reply)
lent_result (Err fault) = Err fault

-- the kind of reply to a request: data for a read, and a number for any other
abbrev pub wanted_by : PlainRequest → Wanted
wanted_by (Open device mode) = Number
wanted_by Close = Number
wanted_by (Write bytes) = Number
wanted_by (WriteDropped count) = Number
wanted_by (Read count) = DataUpTo count
wanted_by (Op op count) = Number

-- these bytes are no reply: they break the grammar, or more bytes follow the reply, or 2^64 - 1
-- bytes or more hold no whole reply
abbrev pub IsNoReply : Wanted → List ℕ → Type 0
IsNoReply wanted bytes =
    ((fault : WireFault) × ReplyParsesAs (Some wanted) bytes (Err fault) bytes)
    ⊎ ((reply : PlainReply) × (rest : List ℕ) × ReplyParsesAs (Some wanted) bytes (Ok (Some reply)) rest × (rest ≢ []))
    ⊎ (ReplyParsesAs (Some wanted) bytes (Ok None) bytes × (2 ^ 64 - 1 ≤ length bytes))

-- What a peer sends while a reply is awaited: that reply alone, a part of one before the connection
-- ends, bytes that are no reply, or a reply for which an allocation fails.
abbrev pub Brings : Wanted → Result PlainReply CallFault → List Passed → Type 0
Brings wanted (Ok reply) passed = (bytes : List ℕ) × SpellsReply bytes reply wanted × (passed ≡ map Given bytes)
Brings wanted (Err ConnectionEnded) passed =
    (bytes : List ℕ) × ReplyParsesAs (Some wanted) bytes (Ok None) bytes × (passed ≡ map Given bytes ++ Ended ∷ [])
Brings wanted (Err Botched) passed = (bytes : List ℕ) × IsNoReply wanted bytes × (passed ≡ map Given bytes)
Brings wanted (Err OutOfMemory) passed =
    (bytes : List ℕ) × (reply : PlainReply) × (rest : List ℕ) × ReplyParsesAs (Some wanted) bytes (Ok (Some reply)) rest
    × (passed ≡ map Given bytes)

-- What passes in a call: the request is sent once, and then the peer's bytes come. Or the
-- connection ends while the request is sent, or an allocation for it fails.
abbrev pub IsPeerCall : PlainRequest → Result PlainReply CallFault → List Passed → Type 0
IsPeerCall request result passed =
    ((more : List Passed) × Brings (wanted_by request) result more × (passed ≡ map Sent (request_text request) ++ more))
    ⊎ ((result ≡ Err ConnectionEnded) × AreBytesSent (request_text request) false passed)
    ⊎ ((result ≡ Err OutOfMemory) × (passed ≡ []))

-- a reply of the kind `wanted` was awaited over a peer, which was `p` before and is `p'` after;
-- `result` is the reply, or why none came
abbrev pub IsReplyHeard : {P : Type 0} → (P → List Passed → Type 0) → Wanted → Result PlainReply CallFault → P → P → Type 0
IsReplyHeard tells wanted result p p' = (passed : List Passed) × Brings wanted result passed × Logs tells p p' passed

-- `request` was sent over a peer, which was `p` before and is `p'` after; `result` is its reply, or
-- why none came
abbrev pub IsCalled : {P : Type 0} → (P → List Passed → Type 0) → PlainRequest → Result PlainReply CallFault → P → P → Type 0
IsCalled tells request result p p' = (passed : List Passed) × IsPeerCall request result passed × Logs tells p p' passed

-- these bytes came since a reply of this kind was awaited; they are the beginning of one, and there
-- is room for the rest
pub record IsReplyAwaited (wanted : Wanted) (h : ReplyHeld) (bytes : List ℕ) : Type 0 where
  pub unread : ReplyUnread h (Some wanted) bytes
  pub begun : ReplyParsesAs (Some wanted) bytes (Ok None) bytes
  pub room : length h.kept < READER_LIMIT

-- the bytes are more than a beginning of a reply: they begin with a whole one, or cannot become one
abbrev pub IsEnough : Wanted → List ℕ → Type 0
IsEnough wanted bytes = ¬ ReplyParsesAs (Some wanted) bytes (Ok None) bytes

-- Bytes were received once from a peer, which was `p` before and is `p'` after. The reader lent all
-- its room, in which `room` is left. The first `count` bytes of it came, and are unread in the
-- reader, which was `old` before and is `new` after.
pub record IsReceivedFrom {P : Type 0} (tells : P → List Passed → Type 0) (p p' : P) (old new : ReplyHeld) (count : ℕ) : Type 0 where
  pub room : List ℕ
  pub within : count ≤ length room
  pub logs : Logs tells p p' (given room (take count room))
  pub whole : (wanted : Option Wanted) (bytes : List ℕ) → ReplyUnread old wanted bytes → length room + reply_taken_of wanted bytes ≡ READER_LIMIT
  pub unread : (wanted : Option Wanted) (bytes : List ℕ) → ReplyUnread old wanted bytes → ReplyUnread new wanted (bytes ++ take count room)

-- A reply of the kind `wanted` was awaited over a peer, and the reader `h` has the bytes that came.
-- They are enough, or the result says why they are not.
abbrev pub IsHeard : {P : Type 0} → (P → List Passed → Type 0) → Wanted → ReplyHeld → P → P → Result Unit CallFault → Type 0
IsHeard tells wanted h p p' (Ok x) =
    (bytes : List ℕ) × ReplyUnread h (Some wanted) bytes × IsEnough wanted bytes × Logs tells p p' (map Given bytes)
IsHeard tells wanted h p p' (Err fault) = IsReplyHeard tells wanted (Err fault) p p'
