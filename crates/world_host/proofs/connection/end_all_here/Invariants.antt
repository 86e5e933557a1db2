use Rattle.std.specs.Prelude.{◌≡◌, map}
use Rattle.world_host.specs.Connection.{plain_connection}
use Rattle.world_host.proofs.Linked.{ended_front}
use Rattle.world_host.proofs.connection.end_all_here.Given as goal

abbrev pub invariant-loop-conn : goal.invariant-loop-conn
invariant-loop-conn l = map plain_connection l.connections ≡ ended_front l.conn-index (map plain_connection l.initial.connections)
