-- The effect of one read of a stream on a reader of requests. Public contracts cite it.
use Rattle.std.specs.Prelude.{◌≡◌, ℕ, List, ◌++◌, length, Option}
use Rattle.std.specs.Io.KnownBytes.{Consumes, Keeps}
use Rattle.rmt_wire.specs.Request.{PlainRequest}
use Rattle.rmt_wire.specs.RequestReader.{RequestHeld, IsGiven, Unread}

-- `count` bytes came from the stream, which had `left` before and has `left'` after, if these are
-- known. In the reader they are unread, after those that were, as if they had been pushed.
pub record IsFilled (left left' : Option (List ℕ)) (old new : RequestHeld) (count : ℕ) : Type 0 where
  pub came : List ℕ
  pub long : length came ≡ count
  pub consumed : Consumes left left' came
  pub unread : (bytes : List ℕ) → Unread old bytes → Unread new (bytes ++ came)
  pub given : (pushed : List ℕ) (requests : List PlainRequest) → IsGiven old pushed requests → IsGiven new (pushed ++ came) requests

-- no byte came, and the reader is unchanged
abbrev pub IsNotFilled : Option (List ℕ) → Option (List ℕ) → RequestHeld → RequestHeld → Type 0
IsNotFilled left left' old new = Keeps left left' × (new ≡ old)
