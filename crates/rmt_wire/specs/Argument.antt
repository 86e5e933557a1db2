-- Numbers in a program's arguments. Public contracts cite it.
use Rattle.std.specs.Prelude.{◌≡◌, ◌≤◌, ℕ, List, Option, MatchOption}
use Rattle.std.specs.Str.Parse.{IsNumeral, digits_value}
use Rattle.rmt_wire.specs.declared.argument.TheConstants.{ARGUMENT_LIMIT}

-- the text is a number up to `ARGUMENT_LIMIT`, in digits alone
abbrev pub IsNumber : List ℕ → Type 0
IsNumber text = IsNumeral 10 text × (digits_value 10 text ≤ ARGUMENT_LIMIT)

-- `found` is the number that the text spells, or None if it spells none
abbrev pub SaysNumber : List ℕ → Option ℕ → Type 0
SaysNumber text found = MatchOption found (¬ (IsNumber text)) (λ n. IsNumber text × (n ≡ digits_value 10 text))
