-- The effect of one call of `fill` on a reader of replies. Public contracts cite it.
use Rattle.std.specs.Prelude.{◌≡◌, ◌+◌, ℕ, List, ◌++◌, length, take, min, Option}
use Rattle.std.specs.Borrow.{MutBor}
use Rattle.rmt_wire.specs.Reply.{Wanted}
use Rattle.rmt_wire.specs.ReplyReader.{ReplyHeld, ReplyUnread, reply_taken_of}
use Rattle.rmt_wire.specs.declared.limits.TheConstants.{READER_LIMIT}

-- A closure was called once with a room of `size` bytes, which it left as `left`. It returned
-- `told`, so `count` bytes came: those at the front of the room. `step` is what the closure's own
-- contract says of the call, after which the closure is `later`.
pub record IsReceived {F : Type 0} (step : MutBor (List ℕ) → ℕ → MutBor (List ℕ) → F → Type 0) (later : F) (size count : ℕ) : Type 0 where
  pub lent : MutBor (List ℕ)
  pub told : ℕ
  pub left : MutBor (List ℕ)
  pub called : step lent told left later
  pub whole : length left.now ≡ size
  pub most : count ≡ min told size

-- A closure was called once with all the room of a reader, and `count` bytes came. In the reader
-- they are unread, after those that were, as if they had been pushed.
pub record IsReplyFilled {F : Type 0} (step : MutBor (List ℕ) → ℕ → MutBor (List ℕ) → F → Type 0) (later : F) (old new : ReplyHeld) (count : ℕ) : Type 0 where
  pub size : ℕ
  pub received : IsReceived step later size count
  pub room : (wanted : Option Wanted) (bytes : List ℕ) → ReplyUnread old wanted bytes → size + reply_taken_of wanted bytes ≡ READER_LIMIT
  pub unread : (wanted : Option Wanted) (bytes : List ℕ) → ReplyUnread old wanted bytes
      → ReplyUnread new wanted (bytes ++ take count received.left.now)
