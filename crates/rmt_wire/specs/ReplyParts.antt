-- How the bytes that answer one request divide into a reply and a rest, defined on whole texts by
-- the grammar alone. The kind of a reply is a number or data. Public contracts cite it.
use Rattle.std.specs.Prelude.{◌≡◌, ◌≢◌, ◌⊎◌, ℕ, ◌<◌, ◌≤◌, List, [], ◌∷◌, ◌++◌, length, Option, Some, None, Result, Ok, Err}
use Rattle.std.specs.Str.Parse.{AllDigits, digits_value}
use Rattle.rmt_wire.specs.Reply.{PlainReply, Wanted, SpellsReply}
use Rattle.rmt_wire.specs.Reply.Wanted.{Number, DataUpTo}
use Rattle.rmt_wire.specs.declared.fault.WireFault.{WireFault}
use Rattle.rmt_wire.specs.declared.fault.WireFault.TheVariants.{UnknownCommand, BadNumber, LineTooLong, NotAReply, TooMuchData}

-- more bytes can follow that make a reply of the wanted kind, or an error
abbrev pub IsReplyPrefix : Wanted → List ℕ → Type 0
IsReplyPrefix wanted bytes = (more : List ℕ) × (reply : PlainReply) × SpellsReply (bytes ++ more) reply wanted

-- no beginning of the bytes is a reply of the wanted kind, or an error
abbrev pub ReplyHasNoSpelling : Wanted → List ℕ → Type 0
ReplyHasNoSpelling wanted bytes = (text rest : List ℕ) (reply : PlainReply) → bytes ≡ text ++ rest → SpellsReply text reply wanted → ⊥

-- the bytes are `A` or `E` and at most ten digits, with no end of the number yet
abbrev pub ReplyEndsInNumber : List ℕ → Type 0
ReplyEndsInNumber seen =
    (digits : List ℕ) × AllDigits 10 digits × (length digits ≤ 10) × ((seen ≡ 65 ∷ digits) ⊎ (seen ≡ 69 ∷ digits))

-- the byte is a digit after `A` that makes the count of the data greater than is wanted
abbrev pub IsTooMuch : Wanted → List ℕ → ℕ → Type 0
IsTooMuch Number seen byte = ⊥
IsTooMuch (DataUpTo most) seen byte =
    (digits : List ℕ) × (seen ≡ 65 ∷ digits) × AllDigits 10 (digits ++ byte ∷ []) × (most < digits_value 10 (digits ++ byte ∷ []))

-- the fault says why this byte, after what was seen before it, rules out every reply; too much data
-- is checked before a bad number
abbrev pub ReplyIsCause : Wanted → List ℕ → ℕ → WireFault → Type 0
ReplyIsCause wanted seen byte UnknownCommand = ⊥
ReplyIsCause wanted seen byte BadNumber = ReplyEndsInNumber seen × ¬ IsTooMuch wanted seen byte
ReplyIsCause wanted seen byte LineTooLong = ⊥
ReplyIsCause wanted seen byte NotAReply = seen ≡ []
ReplyIsCause wanted seen byte TooMuchData = IsTooMuch wanted seen byte

-- the first byte that rules out every reply is this fault
pub record ReplyHasFault (wanted : Wanted) (bytes : List ℕ) (fault : WireFault) : Type 0 where
  pub seen : List ℕ
  pub byte : ℕ
  pub later : List ℕ
  pub split : bytes ≡ seen ++ byte ∷ later
  pub open_before : IsReplyPrefix wanted seen
  pub hopeless : ¬ IsReplyPrefix wanted (seen ++ byte ∷ [])
  pub cause : ReplyIsCause wanted seen byte fault

-- What a reader returns for the bytes that came since it waits for this, and the bytes that it
-- leaves. It returns the reply, or None if the bytes are a beginning of one. Otherwise it fails
-- with the fault of the first byte that rules out every reply. If no reply is waited for, any byte
-- is `TooMuchData`.
abbrev pub ReplyParsesAs : Option Wanted → List ℕ → Result (Option PlainReply) WireFault → List ℕ → Type 0
ReplyParsesAs (Some wanted) bytes (Ok (Some reply)) rest = (text : List ℕ) × SpellsReply text reply wanted × (bytes ≡ text ++ rest)
ReplyParsesAs (Some wanted) bytes (Ok None) rest = IsReplyPrefix wanted bytes × ReplyHasNoSpelling wanted bytes × (rest ≡ bytes)
ReplyParsesAs (Some wanted) bytes (Err fault) rest = ReplyHasFault wanted bytes fault × ReplyHasNoSpelling wanted bytes × (rest ≡ bytes)
ReplyParsesAs None bytes (Ok (Some reply)) rest = ⊥
ReplyParsesAs None bytes (Ok None) rest = (bytes ≡ []) × (rest ≡ bytes)
ReplyParsesAs None bytes (Err fault) rest = (bytes ≢ []) × (fault ≡ TooMuchData) × (rest ≡ bytes)

-- what is waited for after this result: nothing, once a reply was returned
abbrev pub wanted_after : Option Wanted → Result (Option PlainReply) WireFault → Option Wanted
wanted_after wanted (Ok (Some reply)) = None
wanted_after wanted (Ok None) = wanted
wanted_after wanted (Err fault) = wanted

-- the bytes determine what a reader returns and what it leaves
abbrev pub ReplyIsDecided : Option Wanted → List ℕ → Type 0
ReplyIsDecided wanted bytes =
    (rest other : List ℕ) (answer another : Result (Option PlainReply) WireFault) →
    ReplyParsesAs wanted bytes answer rest → ReplyParsesAs wanted bytes another other → (answer ≡ another) × (rest ≡ other)
