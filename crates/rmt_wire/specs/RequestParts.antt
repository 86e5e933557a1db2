-- How a stream divides into requests, defined on whole texts by the grammar alone. Public contracts
-- cite it.
use Rattle.std.specs.Prelude.{◌≡◌, ◌≢◌, ◌⊎◌, ℕ, ◌+◌, ◌<◌, ◌≤◌, List, [], ◌∷◌, ◌++◌, length, Option, Some, None, Result, Ok, Err}
use Rattle.std.specs.Str.Parse.{AllDigits}
use Rattle.rmt_wire.specs.Number.{SpellsNumber, HasNoLineFeed, IsLine, line_feed}
use Rattle.rmt_wire.specs.Request.{PlainRequest, SpellsRequest}
use Rattle.rmt_wire.specs.declared.limits.TheConstants.{RECORD_LIMIT}
use Rattle.rmt_wire.specs.declared.fault.WireFault.{WireFault}
use Rattle.rmt_wire.specs.declared.fault.WireFault.TheVariants.{UnknownCommand, BadNumber, LineTooLong, NotAReply, TooMuchData}

-- more bytes can follow that make a request
abbrev pub IsRequestPrefix : List ℕ → Type 0
IsRequestPrefix bytes = (more : List ℕ) × (request : PlainRequest) × SpellsRequest (bytes ++ more) request

-- no beginning of the bytes spells a request
abbrev pub HasNoSpelling : List ℕ → Type 0
HasNoSpelling bytes = (text rest : List ℕ) (request : PlainRequest) → bytes ≡ text ++ rest → SpellsRequest text request → ⊥

-- the bytes are spellings of these requests, one after the other, and then the rest
abbrev pub Spelled : List ℕ → List PlainRequest → List ℕ → Type 0
Spelled bytes [] rest = bytes ≡ rest
Spelled bytes (request ∷ requests) rest =
    (text later : List ℕ) × SpellsRequest text request × (bytes ≡ text ++ later) × Spelled later requests rest

-- the requests of a stream, and the rest after the last complete one
abbrev pub Parts : List ℕ → List PlainRequest → List ℕ → Type 0
Parts bytes requests rest = Spelled bytes requests rest × HasNoSpelling rest

-- The bytes end in a number of at most ten digits, with no end of it yet. It comes after `W`, `R`
-- or `I`, after the first line of `I`, or after the device line of `O`.
abbrev pub EndsInNumber : List ℕ → Type 0
EndsInNumber seen =
    (digits : List ℕ) × AllDigits 10 digits × (length digits ≤ 10)
    × ((seen ≡ 87 ∷ digits) ⊎ (seen ≡ 82 ∷ digits) ⊎ (seen ≡ 73 ∷ digits)
    ⊎ ((number : List ℕ) × (op : ℕ) × SpellsNumber number op × (seen ≡ 73 ∷ (number ++ line_feed ∷ digits)))
    ⊎ ((device : List ℕ) × IsLine device × (seen ≡ 79 ∷ (device ++ line_feed ∷ digits))))

-- The bytes end in a line of 255 bytes, with no line feed yet. It comes after `O` or `C`, or after
-- the device line of `O`.
abbrev pub EndsInFullLine : List ℕ → Type 0
EndsInFullLine seen =
    (line : List ℕ) × (length line ≡ 255) × HasNoLineFeed line
    × ((seen ≡ 79 ∷ line) ⊎ (seen ≡ 67 ∷ line)
    ⊎ ((device : List ℕ) × IsLine device × (seen ≡ 79 ∷ (device ++ line_feed ∷ line))))

-- the fault says why this byte, after what was seen before it, rules out every request
abbrev pub IsCause : List ℕ → ℕ → WireFault → Type 0
IsCause seen byte UnknownCommand = seen ≡ []
IsCause seen byte BadNumber = EndsInNumber seen
IsCause seen byte LineTooLong = EndsInFullLine seen × (byte ≢ line_feed)
IsCause seen byte NotAReply = ⊥
IsCause seen byte TooMuchData = ⊥

-- the first byte that rules out every request is this fault
pub record HasFault (bytes : List ℕ) (fault : WireFault) : Type 0 where
  pub seen : List ℕ
  pub byte : ℕ
  pub later : List ℕ
  pub split : bytes ≡ seen ++ byte ∷ later
  pub open_before : IsRequestPrefix seen
  pub hopeless : ¬ IsRequestPrefix (seen ++ byte ∷ [])
  pub cause : IsCause seen byte fault

-- What a reader returns for these bytes, and the bytes that it leaves. It returns the first
-- request, or None if the bytes are a beginning of one. Otherwise it fails with the fault of the
-- first byte that rules out every request.
abbrev pub ParsesAs : List ℕ → Result (Option PlainRequest) WireFault → List ℕ → Type 0
ParsesAs bytes (Ok (Some request)) rest = (text : List ℕ) × SpellsRequest text request × (bytes ≡ text ++ rest)
ParsesAs bytes (Ok None) rest = IsRequestPrefix bytes × HasNoSpelling bytes × (rest ≡ bytes)
ParsesAs bytes (Err fault) rest = HasFault bytes fault × HasNoSpelling bytes × (rest ≡ bytes)

-- the bytes begin with a line of `len` bytes, line feed included; it is that of a write of `count`
-- bytes, too many to keep
pub record IsDroppedLine (bytes : List ℕ) (len count : ℕ) : Type 0 where
  pub number : List ℕ
  pub rest : List ℕ
  pub spelled : SpellsNumber number count
  pub large : RECORD_LIMIT < count
  pub split : bytes ≡ 87 ∷ (number ++ line_feed ∷ rest)
  pub long : len ≡ length number + 2
