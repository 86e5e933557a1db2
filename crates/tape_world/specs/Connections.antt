-- All connections that were ever made, as plain data, by number. No public contract needs it.
use Rattle.std.specs.Prelude.{◌≡◌, ℕ, Bool, List, Some}
use Rattle.world_model.specs.World.{Connection, numbered}

-- the connections, of which the first has number 1, and whether there is room for one more
pub record ConnectionsHeld : Type 0 where
  pub list : List Connection
  pub has_room : Bool

-- there is a connection with this number
abbrev pub IsThere : List Connection → ℕ → Type 0
IsThere connections k = (l : Connection) × (numbered connections k ≡ Some l)
