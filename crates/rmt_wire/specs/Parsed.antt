-- The result of reading the front of some bytes, and the numbers there. Public contracts depend on
-- it through RequestReader.
use Rattle.std.specs.Prelude.{ℕ, ◌+◌, ◌-◌, ◌*◌, ◌==◌, ◌&&◌, ◌||◌, Bool, false, if◌then◌else◌, nat_lt, nat_le, List, [], ◌∷◌, Option, Some, None, Result, Ok, Err}
use Rattle.rmt_wire.specs.Number.{line_feed, space}
use Rattle.rmt_wire.specs.declared.fault.WireFault.{WireFault}
use Rattle.rmt_wire.specs.declared.fault.WireFault.TheVariants.{BadNumber, TooMuchData}
use Rattle.rmt_wire.specs.declared.number.Place.{Place}
use Rattle.rmt_wire.specs.declared.number.Place.TheVariants as places

-- the result of reading an A: the A, None if it is not complete, or the fault of a byte that rules
-- it out
abbrev pub Parsed : Type 0 → Type 0
Parsed A = Result (Option A) WireFault

-- If the first result is a complete A, it is passed to `next`, which reads what follows. An
-- incomplete A or a fault is the result itself.
abbrev pub after : {A B : Type 0} → Parsed A → (A → Parsed B) → Parsed B
after (Err fault) next = Err fault
after (Ok None) next = Ok None
after (Ok (Some a)) next = next a

-- the byte is a decimal digit
abbrev pub is_digit : ℕ → Bool
is_digit b = nat_le 48 b && nat_le b 57

-- the byte ends a number at this place: a line feed, or in a mode line a space
abbrev pub ends_number : Place → ℕ → Bool
ends_number places.Line b = b == line_feed
ends_number places.Mode b = b == line_feed || b == space
ends_number (places.Data most) b = b == line_feed

-- the value is more bytes of data than are wanted at this place
abbrev pub is_too_much : Place → ℕ → Bool
is_too_much places.Line value = false
is_too_much places.Mode value = false
is_too_much (places.Data most) value = nat_lt most value

-- The number that the bytes continue after `count` digits with this value, and how many digits it
-- has. Too much data is checked before a bad number.
abbrev pub number_from : Place → ℕ → ℕ → List ℕ → Parsed (ℕ × ℕ)
number_from place value count [] = Ok None
number_from place value count (b ∷ bytes) =
    if is_digit b
    then (if is_too_much place (value * 10 + (b - 48)) then Err TooMuchData
    else if count == 10 || nat_lt 2147483647 (value * 10 + (b - 48)) then Err BadNumber
    else number_from place (value * 10 + (b - 48)) (count + 1) bytes)
    else (if nat_lt 0 count && ends_number place b then Ok (Some (value, count)) else Err BadNumber)

-- the number that the bytes begin with, and how many digits it has
abbrev pub number_front : Place → List ℕ → Parsed (ℕ × ℕ)
number_front place bytes = number_from place 0 0 bytes
