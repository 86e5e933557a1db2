-- Replies as values, and how each is spelled (rmt(8)). The kind of a reply is a number or data.
-- Public contracts cite it.
use Rattle.std.specs.Prelude.{◌≡◌, ℕ, ◌≤◌, List, [], ◌∷◌, ◌++◌, length, take, decimal}
use Rattle.rmt_wire.specs.Number.{SpellsNumber, HasNoLineFeed, line_feed}

-- a reply as a value
pub data PlainReply : Type 0 where
  Done : (number : ℕ) → PlainReply
  Data : (bytes : List ℕ) → PlainReply
  Error : (number : ℕ) → (text : List ℕ) → PlainReply

-- what a client waits for: a number, or the data of a read of at most that many bytes
pub data Wanted : Type 0 where
  Number : Wanted
  DataUpTo : (most : ℕ) → Wanted

-- The bytes spell the reply. If a number is wanted: `A`, number, LF. If data are wanted: `A`,
-- count, LF, that many bytes. Always an error: `E`, number, LF, any text, LF. The error has the
-- first 255 bytes of the text.
abbrev pub SpellsReply : List ℕ → PlainReply → Wanted → Type 0
SpellsReply bytes (Done n) Number = (number : List ℕ) × SpellsNumber number n × (bytes ≡ 65 ∷ (number ++ line_feed ∷ []))
SpellsReply bytes (Done n) (DataUpTo most) = ⊥
SpellsReply bytes (Data given) Number = ⊥
SpellsReply bytes (Data given) (DataUpTo most) =
    (number : List ℕ) × SpellsNumber number (length given) × (length given ≤ most) × (bytes ≡ 65 ∷ (number ++ line_feed ∷ given))
SpellsReply bytes (Error n text) wanted =
    (number : List ℕ) × (line : List ℕ) × SpellsNumber number n × HasNoLineFeed line × (text ≡ take 255 line)
    × (bytes ≡ 69 ∷ (number ++ line_feed ∷ (line ++ line_feed ∷ [])))

-- a writer can spell the reply: its number or count is at most 2147483647, and its text is one line
-- of at most 255 bytes
abbrev pub ReplyHasSpelling : PlainReply → Type 0
ReplyHasSpelling (Done n) = n ≤ 2147483647
ReplyHasSpelling (Data bytes) = length bytes ≤ 2147483647
ReplyHasSpelling (Error n text) = (n ≤ 2147483647) × (length text ≤ 255) × HasNoLineFeed text

-- how many bytes of data a reply has
abbrev pub data_length : PlainReply → ℕ
data_length (Done n) = 0
data_length (Data bytes) = length bytes
data_length (Error n text) = 0

-- the bytes that a writer writes for a reply, with no leading zeros in its numbers
abbrev pub reply_text : PlainReply → List ℕ
reply_text (Done n) = 65 ∷ (decimal n ++ line_feed ∷ [])
reply_text (Data bytes) = 65 ∷ (decimal (length bytes) ++ line_feed ∷ bytes)
reply_text (Error n text) = 69 ∷ (decimal n ++ line_feed ∷ (text ++ line_feed ∷ []))

-- the reply is of the wanted kind, with no more data than are wanted, or it is an error
abbrev pub AnswersTo : PlainReply → Wanted → Type 0
AnswersTo (Done n) Number = Unit {0}
AnswersTo (Done n) (DataUpTo most) = ⊥
AnswersTo (Data bytes) Number = ⊥
AnswersTo (Data bytes) (DataUpTo most) = length bytes ≤ most
AnswersTo (Error n text) wanted = Unit {0}
