use Rattle.std.proofs.Common.{ap}
use Rattle.world_host.specs.Connection.{arrived, plain_connection}
use Rattle.std.specs.Prelude.{◌-◌, slice_index_or}
use Rattle.world_host.proofs.Linked.{put_connection}
use Rattle.world_host.proofs.connection.arrive.Goals as goal

pub returns : goal.returns
returns c =
    put_connection (arrived c.args.count) c.args.connections.now c.args.connection _ c.index-connections-connection.result c.requires.first c.requires.last
    (ap (λ way. record (plain_connection (slice_index_or c.args.connections.now (c.args.connection - 1) c.index-connections-connection.result)) { toward = way }) c.pass.ensures)
