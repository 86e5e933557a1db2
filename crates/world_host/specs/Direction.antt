-- One direction of a connection, as plain data. Public contracts cite it.
use Rattle.std.specs.Prelude.{ℕ, List}

-- the bytes in transit, and how many more there is room for
pub record PlainDirection : Type 0 where
  pub way : List ℕ
  pub spare : ℕ

-- the direction with these parts
abbrev pub plain_direction : List ℕ → ℕ → PlainDirection
plain_direction way spare = record { way = way; spare = spare }
