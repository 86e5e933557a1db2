use Rattle.world_model.specs.Changes.{without_server}
use Rattle.world_host.proofs.Linked.{put_connection}
use Rattle.world_host.proofs.connection.end_here.Goals as goal

pub returns : goal.returns
returns c = put_connection without_server c.args.connections.now c.args.connection c.end_here.new.self c.index-connections-connection.result c.requires.first c.requires.last c.end_here.ensures
