-- The bytes that come to a client that waits for a reply. The kind of a reply is a number or data.
-- Public contracts use it (through Standing).
use Rattle.std.specs.Prelude.{◌≡◌, ℕ, ◌<◌, Bool, true, false, List, [], ◌∷◌, ◌++◌, length, Option, Some, None, Result, Ok, Err}
use Rattle.rmt_wire.specs.Reply.{PlainReply, Wanted}
use Rattle.rmt_wire.specs.Reply.PlainReply.{Done, Data, Error}
use Rattle.rmt_wire.specs.declared.limits.TheConstants.{READER_LIMIT}
use Rattle.rmt_wire.specs.ReplyParts.{ReplyParsesAs}
use Rattle.rmt_wire.specs.ReplyReader.{ReplyHeld, ReplyUnread}
use Rattle.rmt_wire.specs.declared.fault.WireFault.{WireFault}
use Rattle.dump_run.specs.Label.{PlainLabel, ReadsLabel}
use Rattle.dump_run.specs.Run.{PlainRun}
use Rattle.dump_run.specs.declared.count.VolumeCount.{VolumeCount}
use Rattle.dump_client.specs.Script.{counted_label}
use Rattle.dump_client.specs.declared.listen.ReplySummary.{ReplySummary}
use Rattle.dump_client.specs.declared.listen.ReplySummary.TheVariants as summary
use Rattle.dump_client.specs.declared.listen.HeardReply.{HeardReply}
use Rattle.dump_client.specs.declared.listen.FeedResult.{FeedResult}
use Rattle.dump_client.specs.declared.listen.FeedResult.TheVariants.{Waits, Reply, Noise}

-- `bytes` came since a reply of this kind was awaited; they begin one, and the reader has room for
-- the rest
pub record IsReaderWaiting (wanted : Wanted) (h : ReplyHeld) (bytes : List ℕ) : Type 0 where
  pub unread : ReplyUnread h (Some wanted) bytes
  pub begun : ReplyParsesAs (Some wanted) bytes (Ok None) bytes
  pub room : length h.kept < READER_LIMIT

-- the summary of a reply: without its text, and with the counted volume whose label its bytes are
abbrev pub IsSummary : PlainRun → List VolumeCount → PlainReply → ReplySummary → Type 0
IsSummary run counts (Done n) (summary.Number number) = number ≡ n
IsSummary run counts (Data bytes) (summary.Looked volume) = volume ≡ counted_label run counts bytes
IsSummary run counts (Error n text) (summary.Error number) = number ≡ n
IsSummary run counts reply s = ⊥

-- the label that a reply contains: what its bytes are read as, if they are a record
abbrev pub HasLabel : PlainReply → Option PlainLabel → Type 0
HasLabel (Data bytes) label = ReadsLabel bytes label
HasLabel reply label = label ≡ None

-- what is kept of a reply: its summary, and the label that it contains
abbrev pub IsHeardAs : PlainRun → List VolumeCount → PlainReply → HeardReply → Type 0
IsHeardAs run counts reply h = IsSummary run counts reply h.summary × HasLabel reply h.label

-- whether there are further bytes
abbrev pub is_more : List ℕ → Bool
is_more [] = false
is_more (b ∷ bytes) = true

-- the result of a reader for the bytes that it holds, and its state afterwards; a fault remains,
-- whatever follows
abbrev pub IsReplyHeard : PlainRun → List VolumeCount → Wanted → List ℕ → Result (Option HeardReply) WireFault → ReplyHeld → Type 0
IsReplyHeard run counts wanted bytes (Ok None) new = IsReaderWaiting wanted new bytes
IsReplyHeard run counts wanted bytes (Ok (Some h)) new =
    (reply : PlainReply) × (rest : List ℕ) × ReplyParsesAs (Some wanted) bytes (Ok (Some reply)) rest
    × IsHeardAs run counts reply h × ReplyUnread new None rest
IsReplyHeard run counts wanted bytes (Err fault) new = (more : List ℕ) → ReplyParsesAs (Some wanted) (bytes ++ more) (Err fault) (bytes ++ more)

-- The result for all bytes since a reply was awaited, and the reader's state afterwards. The bytes
-- begin a reply; or a reply comes first, and if no more bytes follow none is unread; or they begin
-- no reply.
abbrev pub IsFeedResult : PlainRun → List VolumeCount → Wanted → List ℕ → FeedResult → ReplyHeld → Type 0
IsFeedResult run counts wanted bytes Waits new = IsReaderWaiting wanted new bytes
IsFeedResult run counts wanted bytes (Reply h more) new =
    (reply : PlainReply) × (rest : List ℕ) × ReplyParsesAs (Some wanted) bytes (Ok (Some reply)) rest × IsHeardAs run counts reply h × (more ≡ is_more rest)
    × (more ≡ false → ReplyUnread new None [])
IsFeedResult run counts wanted bytes Noise new = (fault : WireFault) × ReplyParsesAs (Some wanted) bytes (Err fault) bytes
