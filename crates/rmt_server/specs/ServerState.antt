-- The drives of a server, the holder of each, and the server's side of each connection. Public
-- contracts cite it.
use Rattle.std.specs.Prelude.{ℕ, List, Option}
use Rattle.rmt_wire.specs.RequestReader.{RequestHeld}
use Rattle.drives.specs.TapeLibrary.{TapeLibrary}
use Rattle.rmt_server.specs.Session.{PlainSession}

-- the server's side of a connection: what its reader of requests holds, and its session
pub record ServerConnection : Type 0 where
  pub reached : RequestHeld
  pub session : PlainSession

-- builds a ServerConnection from its parts
abbrev pub side : RequestHeld → PlainSession → ServerConnection
side reached session = record { reached = reached; session = session }

-- Drives and reels, the holder of each drive, or 0, and the server's side of each live connection.
-- Connection k is at index k - 1, and its session has the number k.
pub record ServerState : Type 0 where
  pub library : TapeLibrary
  pub holders : List ℕ
  pub sides : List (Option ServerConnection)

-- builds a ServerState from its parts
abbrev pub server : TapeLibrary → List ℕ → List (Option ServerConnection) → ServerState
server library holders sides = record { library = library; holders = holders; sides = sides }
