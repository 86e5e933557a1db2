-- A connection as plain data, and the effect of events on it. Plain data are the values that
-- contracts use for what the code has in memory. Public contracts cite it.
use Rattle.std.specs.Prelude.{ℕ, true, List, drop, option_map}
use Rattle.world_host.specs.declared.turn.Turn.{Turn}
use Rattle.world_host.specs.declared.turn.Turn.TheVariants as turns
use Rattle.world_model.specs.World.{Connection}
use Rattle.world_model.specs.Changes.{without_server, sent_on}
use Rattle.world_host.specs.Attempt.{noted_carried}
use Rattle.world_host.specs.declared.connection.Connection.{Connection as RealConnection}

-- a connection, as plain data
abbrev pub plain_connection : RealConnection → Connection
plain_connection l = record { toward = l.toward.way; back = l.back.way; cut = l.cut; other = l.other; dump = l.dump }

-- the connection after a cut
abbrev pub severed : Connection → Connection
severed l = record l { cut = true }

-- the connection after these bytes were sent to the server
abbrev pub said : List ℕ → Connection → Connection
said bytes l = record l { toward = sent_on l.cut l.toward bytes }

-- the connection after `n` bytes in transit to the server arrived
abbrev pub arrived : ℕ → Connection → Connection
arrived n l = record l { toward = drop n l.toward }

-- the connection after `n` bytes in transit to the peer arrived
abbrev pub deliver_back : ℕ → Connection → Connection
deliver_back n l = record l { back = drop n l.back }

-- the connection after a turn of the server's side, which a fault ends
abbrev pub noted_turn : Turn → Connection → Connection
noted_turn turns.Nothing l = l
noted_turn (turns.Carried c) l = record l { dump = option_map (noted_carried c) l.dump }
noted_turn (turns.Broken fault) l = without_server l
