use Rattle.std.proofs.Common.{refl}
use Rattle.world_host.specs.Connection.{severed}
use Rattle.world_host.proofs.Linked.{put_connection}
use Rattle.world_host.proofs.connection.cut.Goals as goal

pub returns : goal.returns
returns c = put_connection severed c.args.connections.now c.args.connection _ c.index-connections-connection.result c.requires.first c.requires.last refl
