-- Requests as values, and how each is spelled (rmt(8)). Public contracts cite it.
use Rattle.std.specs.Prelude.{◌≡◌, ◌⊎◌, ℕ, ◌<◌, ◌≤◌, List, [], ◌∷◌, ◌++◌, length, decimal}
use Rattle.rmt_wire.specs.declared.limits.TheConstants.{RECORD_LIMIT}
use Rattle.rmt_wire.specs.Number.{SpellsNumber, IsLine, line_feed, space}

-- a request as a value
pub data PlainRequest : Type 0 where
  Open : (device : List ℕ) → (mode : ℕ) → PlainRequest
  Close : PlainRequest
  Write : (bytes : List ℕ) → PlainRequest
  WriteDropped : (count : ℕ) → PlainRequest
  Read : (count : ℕ) → PlainRequest
  Op : (op : ℕ) → (count : ℕ) → PlainRequest

-- the line is a mode: a number, or a number, a space and any text
abbrev pub SpellsMode : List ℕ → ℕ → Type 0
SpellsMode line mode =
    IsLine line
    × (SpellsNumber line mode ⊎ ((number text : List ℕ) × SpellsNumber number mode × (line ≡ number ++ space ∷ text)))

-- The bytes spell the request. Open: `O`, device, LF, mode line, LF. Close: `C`, any line, LF.
-- Write, kept or dropped: `W`, count, LF, that many bytes. Read: `R`, count, LF. Operation: `I`,
-- operation, LF, count, LF.
abbrev pub SpellsRequest : List ℕ → PlainRequest → Type 0
SpellsRequest bytes (Open device mode) =
    (line : List ℕ) × IsLine device × SpellsMode line mode × (bytes ≡ 79 ∷ (device ++ line_feed ∷ (line ++ line_feed ∷ [])))
SpellsRequest bytes Close = (line : List ℕ) × IsLine line × (bytes ≡ 67 ∷ (line ++ line_feed ∷ []))
SpellsRequest bytes (Write written) =
    (number : List ℕ) × SpellsNumber number (length written) × (length written ≤ RECORD_LIMIT)
    × (bytes ≡ 87 ∷ (number ++ line_feed ∷ written))
SpellsRequest bytes (WriteDropped count) =
    (number : List ℕ) × (dropped : List ℕ) × SpellsNumber number count × (RECORD_LIMIT < count) × (length dropped ≡ count)
    × (bytes ≡ 87 ∷ (number ++ line_feed ∷ dropped))
SpellsRequest bytes (Read count) = (number : List ℕ) × SpellsNumber number count × (bytes ≡ 82 ∷ (number ++ line_feed ∷ []))
SpellsRequest bytes (Op op count) =
    (first : List ℕ) × (second : List ℕ) × SpellsNumber first op × SpellsNumber second count
    × (bytes ≡ 73 ∷ (first ++ line_feed ∷ (second ++ line_feed ∷ [])))

-- A writer can spell the request. Its device is one line of at most 255 bytes, and its numbers are
-- at most 2147483647. A write has at most `RECORD_LIMIT` bytes, and a dropped write has more.
abbrev pub HasSpelling : PlainRequest → Type 0
HasSpelling (Open device mode) = IsLine device × (mode ≤ 2147483647)
HasSpelling Close = Unit {0}
HasSpelling (Write written) = length written ≤ RECORD_LIMIT
HasSpelling (WriteDropped count) = (RECORD_LIMIT < count) × (count ≤ 2147483647)
HasSpelling (Read count) = count ≤ 2147483647
HasSpelling (Op op count) = (op ≤ 2147483647) × (count ≤ 2147483647)

-- The bytes that a writer writes for a request. Numbers have no leading zeros, a mode is its number
-- alone, and a close has no text. A dropped write is its line alone.
abbrev pub request_text : PlainRequest → List ℕ
request_text (Open device mode) = 79 ∷ (device ++ line_feed ∷ (decimal mode ++ line_feed ∷ []))
request_text Close = 67 ∷ (line_feed ∷ [])
request_text (Write written) = 87 ∷ (decimal (length written) ++ line_feed ∷ written)
request_text (WriteDropped count) = 87 ∷ (decimal count ++ line_feed ∷ [])
request_text (Read count) = 82 ∷ (decimal count ++ line_feed ∷ [])
request_text (Op op count) = 73 ∷ (decimal op ++ line_feed ∷ (decimal count ++ line_feed ∷ []))

-- how many bytes must still follow those that a writer writes
abbrev pub unsent : PlainRequest → ℕ
unsent (Open device mode) = 0
unsent Close = 0
unsent (Write written) = 0
unsent (WriteDropped count) = count
unsent (Read count) = 0
unsent (Op op count) = 0

-- the text is the request up to the data of a dropped write, or all of any other request: with any
-- `unsent request` bytes after it, it spells the request
abbrev pub IsTextOf : List ℕ → PlainRequest → Type 0
IsTextOf text request = (more : List ℕ) → length more ≡ unsent request → SpellsRequest (text ++ more) request
