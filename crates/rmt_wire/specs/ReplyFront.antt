-- The reply that the bytes of a stream begin with, computed byte by byte from their beginning.
-- `ReplyParts` defines the same reply by the whole texts of replies. The kind of a reply is a
-- number or data. Public contracts cite it.
use Rattle.std.specs.Prelude.{ℕ, suc, ◌+◌, ◌==◌, if◌then◌else◌, nat_lt, min, List, [], ◌∷◌, ◌++◌, length, take, drop, Some, None, Ok, Err}
use Rattle.rmt_wire.specs.Number.{line_feed}
use Rattle.rmt_wire.specs.Parsed.{Parsed, after, number_front}
use Rattle.rmt_wire.specs.Reply.{PlainReply, Wanted}
use Rattle.rmt_wire.specs.Reply.PlainReply.{Done, Data, Error}
use Rattle.rmt_wire.specs.Reply.Wanted.{Number, DataUpTo}
use Rattle.rmt_wire.specs.declared.fault.WireFault.TheVariants.{NotAReply}
use Rattle.rmt_wire.specs.declared.number.Place.TheVariants as places

-- how many bytes come before the first line feed, or the number of all bytes if there is none
abbrev pub text_len : List ℕ → ℕ
text_len [] = 0
text_len (b ∷ bytes) = if b == line_feed then 0 else suc (text_len bytes)

-- the part of an error's text that is kept: its first 255 bytes, and everything from its line feed
-- on
abbrev pub kept_text : List ℕ → List ℕ
kept_text text = take (min 255 (text_len text)) text ++ drop (text_len text) text

-- the error with this number and its length, once its text has a line feed; its first line has
-- `len` bytes
abbrev pub error_at : ℕ → ℕ → List ℕ → Parsed (PlainReply × ℕ)
error_at number len text =
    if nat_lt (text_len text) (length text)
    then Ok (Some (Error number (take (min 255 (text_len text)) text), len + text_len text + 1))
    else Ok None

-- the data and the length of the reply, once `count` bytes are there; the reply's line has `len`
-- bytes
abbrev pub data_at : ℕ → ℕ → List ℕ → Parsed (PlainReply × ℕ)
data_at count len bytes = if nat_lt (length bytes) count then Ok None else Ok (Some (Data (take count bytes), len + count))

-- the reply of the wanted kind, and its length, read from the bytes after its `A`
unfoldable pub done_front : Wanted → List ℕ → Parsed (PlainReply × ℕ)
done_front Number bytes = after (number_front places.Line bytes) (λ n. Ok (Some (Done n.0, n.1 + 2)))
done_front (DataUpTo most) bytes = after (number_front (places.Data most) bytes) (λ n. data_at n.0 (n.1 + 2) (drop (n.1 + 1) bytes))

-- the error, and its length, read from the bytes after its `E`
unfoldable pub error_front : List ℕ → Parsed (PlainReply × ℕ)
error_front bytes = after (number_front places.Line bytes) (λ n. error_at n.0 (n.1 + 2) (drop (n.1 + 1) bytes))

-- the reply that the bytes begin with, and its length
unfoldable pub reply_front : Wanted → List ℕ → Parsed (PlainReply × ℕ)
reply_front wanted [] = Ok None
reply_front wanted (letter ∷ bytes) =
    if letter == 65 then done_front wanted bytes
    else if letter == 69 then error_front bytes
    else Err NotAReply

-- what the reader keeps of the bytes of an error after its `E`: once the number is complete, the
-- text's bytes above the limit are dropped
abbrev pub kept_behind : Parsed (ℕ × ℕ) → List ℕ → List ℕ
kept_behind (Ok (Some n)) bytes = take (n.1 + 1) bytes ++ kept_text (drop (n.1 + 1) bytes)
kept_behind (Ok None) bytes = bytes
kept_behind (Err fault) bytes = bytes

-- What the reader keeps of the bytes of a reply that is waited for. That is all of them, except the
-- end of a text of an error that is too long.
unfoldable pub kept_of : List ℕ → List ℕ
kept_of [] = []
kept_of (letter ∷ bytes) = if letter == 69 then letter ∷ kept_behind (number_front places.Line bytes) bytes else letter ∷ bytes
