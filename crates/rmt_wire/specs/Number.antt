-- Numbers and lines in a stream (rmt(8)). The limits are this project's. Public contracts cite it.
use Rattle.std.specs.Prelude.{◌≡◌, ◌≢◌, ℕ, ◌≤◌, List, length}
use Rattle.std.specs.List.{AllByRecursion}
use Rattle.std.specs.Str.Parse.{IsNumeral, digits_value}

-- the byte LF
abbrev pub line_feed : ℕ
line_feed = 10

-- the byte of a space
abbrev pub space : ℕ
space = 32

-- the text is 1 to 10 digits that spell n, and n is at most 2147483647
pub record SpellsNumber (text : List ℕ) (n : ℕ) : Type 0 where
  pub digits : IsNumeral 10 text
  pub few : length text ≤ 10
  pub value : digits_value 10 text ≡ n
  pub small : n ≤ 2147483647

-- the text has no line feed
abbrev pub HasNoLineFeed : List ℕ → Type 0
HasNoLineFeed text = AllByRecursion (λ b. b ≢ line_feed) text

-- a device, mode or close line, without its line feed: at most 255 bytes
abbrev pub IsLine : List ℕ → Type 0
IsLine text = (length text ≤ 255) × HasNoLineFeed text
