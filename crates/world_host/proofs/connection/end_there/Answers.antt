use Rattle.world_model.specs.Changes.{without_peer}
use Rattle.world_host.proofs.Linked.{put_connection}
use Rattle.world_host.proofs.connection.end_there.Goals as goal

pub returns : goal.returns
returns c = put_connection without_peer c.args.connections.now c.args.connection c.end_there.new.self c.index-connections-connection.result c.requires.first c.requires.last c.end_there.ensures
