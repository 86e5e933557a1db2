-- The state of a reader of replies. A plain value is what contracts use for a value that the code
-- has in memory. The kind of a reply is a number or data. Public contracts cite it.
use Rattle.std.specs.Prelude.{◌≡◌, ◌≤◌, ℕ, ◌<◌, List, ◌∷◌, ◌++◌, length, drop, Option, Some, None, Result, Ok, Err, IfOk, IfSome}
use Rattle.rmt_wire.specs.Number.{SpellsNumber, line_feed}
use Rattle.rmt_wire.specs.declared.limits.TheConstants.{READER_LIMIT}
use Rattle.rmt_wire.specs.declared.limits.TheConstants.{RECORD_LIMIT}
use Rattle.rmt_wire.specs.Reply.{PlainReply, Wanted}
use Rattle.rmt_wire.specs.Reply.Wanted.{Number, DataUpTo}
use Rattle.rmt_wire.specs.ReplyParts.{ReplyParsesAs, wanted_after}
use Rattle.rmt_wire.specs.ReplyFront.{kept_of}
use Rattle.rmt_wire.specs.Lent.{plain_reply}
use Rattle.rmt_wire.specs.declared.reply.Reply.{Reply}
use Rattle.rmt_wire.specs.declared.fault.WireFault.{WireFault}

-- the state of a reader: the kind of reply that it waits for, if any, and the bytes that it keeps
pub record ReplyHeld : Type 0 where
  pub wanted : Option Wanted
  pub kept : List ℕ

-- the state of a reader that waits for this and keeps these bytes
abbrev pub reply_held : Option Wanted → List ℕ → ReplyHeld
reply_held wanted kept = record { wanted = wanted; kept = kept }

-- at most `RECORD_LIMIT` bytes of data are waited for
abbrev pub IsWithin : Wanted → Type 0
IsWithin Number = Unit {0}
IsWithin (DataUpTo most) = most ≤ RECORD_LIMIT

-- if data are waited for, they are at most `RECORD_LIMIT` bytes
abbrev pub IsWithinIfSome : Option Wanted → Type 0
IsWithinIfSome None = Unit {0}
IsWithinIfSome (Some wanted) = IsWithin wanted

-- The bytes that are kept of those pushed. If a reply is waited for, the text of an error is kept
-- only up to its first 255 bytes. All other bytes are kept.
abbrev pub kept_while : Option Wanted → List ℕ → List ℕ
kept_while None bytes = bytes
kept_while (Some wanted) bytes = kept_of bytes

-- the reader `h` waits for a reply of the kind `wanted`, if for any, and these bytes were pushed
-- since then and not yet returned
pub record ReplyUnread (h : ReplyHeld) (wanted : Option Wanted) (bytes : List ℕ) : Type 0 where
  pub waits : h.wanted ≡ wanted
  pub keeps : h.kept ≡ kept_while wanted bytes

-- how many bytes of room these take: the text of an error takes none after its first 255 bytes
abbrev pub reply_taken_of : Option Wanted → List ℕ → ℕ
reply_taken_of wanted bytes = length (kept_while wanted bytes)

-- the result of `next`, with the plain value of its reply
abbrev pub plain_reply_result : Result (Option Reply) WireFault → Result (Option PlainReply) WireFault
plain_reply_result (Ok None) = Ok None
plain_reply_result (Ok (Some reply)) = Ok (Some (plain_reply reply))
plain_reply_result (Err fault) = Err fault

-- From `old` the reader returns `answer`, and then it is `new`. From the bytes that were pushed and
-- not yet returned, it returns what is waited for and holds the rest. After a reply it waits for
-- none.
abbrev pub ReplyContinues : ReplyHeld → Result (Option PlainReply) WireFault → ReplyHeld → Type 0
ReplyContinues old answer new =
    (wanted : Option Wanted) (bytes : List ℕ) → ReplyUnread old wanted bytes
    → (rest : List ℕ) × ReplyUnread new (wanted_after wanted answer) rest × ReplyParsesAs wanted bytes answer rest

-- after None there is room for one byte or more
abbrev pub ReplyLeavesRoom : Result (Option PlainReply) WireFault → ReplyHeld → Type 0
ReplyLeavesRoom (Ok None) new =
    (wanted : Option Wanted) (bytes : List ℕ) → ReplyUnread new wanted bytes → reply_taken_of wanted bytes < READER_LIMIT
ReplyLeavesRoom (Ok (Some reply)) new = Unit {0}
ReplyLeavesRoom (Err fault) new = Unit {0}

-- if no reply was returned, the reader is unchanged
abbrev pub ReplyStaysUnlessGiven : ReplyHeld → Result (Option PlainReply) WireFault → ReplyHeld → Type 0
ReplyStaysUnlessGiven old (Ok (Some reply)) new = Unit {0}
ReplyStaysUnlessGiven old (Ok None) new = new ≡ old
ReplyStaysUnlessGiven old (Err fault) new = new ≡ old

-- one call of `next`
pub record ReplyIsNext (old : ReplyHeld) (answer : Result (Option PlainReply) WireFault) (new : ReplyHeld) : Type 0 where
  pub continues : ReplyContinues old answer new
  pub room : ReplyLeavesRoom answer new
  pub unchanged : ReplyStaysUnlessGiven old answer new

-- once a fault was returned, it is returned at each later call, whatever is pushed
abbrev pub ReplyStaysFaulty : ReplyHeld → Result (Option PlainReply) WireFault → Type 0
ReplyStaysFaulty old (Err fault) =
    (wanted : Option Wanted) (bytes more : List ℕ) → ReplyUnread old wanted bytes
    → ReplyParsesAs wanted (bytes ++ more) (Err fault) (bytes ++ more)
ReplyStaysFaulty old (Ok answer) = Unit {0}

-- the plain value of the result of a look for the first reply, without the number beside the reply
abbrev pub plain_reply_front_result : Result (Option (Reply × ℕ)) WireFault → Result (Option PlainReply) WireFault
plain_reply_front_result (Ok None) = Ok None
plain_reply_front_result (Ok (Some found)) = Ok (Some (plain_reply found.0))
plain_reply_front_result (Err fault) = Err fault

-- a look at the first reply found what one call of `next` would return, and how many bytes would be
-- unread after the reply
pub record IsPeeked (h : ReplyHeld) (found : Result (Option (Reply × ℕ)) WireFault) : Type 0 where
  pub after : ReplyHeld
  pub next : ReplyIsNext h (plain_reply_front_result found) after
  pub left : IfOk found (λ o. IfSome o (λ f. f.1 ≡ length after.kept))

-- the state of the reader once the reply that was found, if any, was returned
abbrev pub reply_held_after : Result (Option (Reply × ℕ)) WireFault → ReplyHeld → ReplyHeld
reply_held_after (Ok None) h = h
reply_held_after (Ok (Some found)) h = reply_held None (drop found.1 h.kept)
reply_held_after (Err fault) h = h

-- the bytes of an error with this number, and this text so far
abbrev pub error_bytes : List ℕ → List ℕ → List ℕ
error_bytes number text = 69 ∷ (number ++ line_feed ∷ text)

-- the bytes are those of an error, complete at least up to its text
pub record IsErrorText (bytes number text : List ℕ) : Type 0 where
  pub value : ℕ
  pub spelled : SpellsNumber number value
  pub split : bytes ≡ error_bytes number text
