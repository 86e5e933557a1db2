use Rattle.std.proofs.lemmas.Result.{on_ok_weaker, on_err_weaker}
use Rattle.world_host.specs.Connection.{said}
use Rattle.world_host.proofs.Linked.{put_connection, put_same}
use Rattle.world_host.proofs.connection.send.Goals as goal

pub returns-clause-sent : goal.returns-clause-sent
returns-clause-sent c =
    on_ok_weaker c.send.result (put_connection (said c.args.bytes.now) c.args.connections.now c.args.connection c.send.new.self c.index-connections-connection.result
    c.requires.first c.requires.last) c.send.ensures.sent

pub returns-clause-refused : goal.returns-clause-refused
returns-clause-refused c =
    on_err_weaker c.send.result (put_same c.args.connections.now c.args.connection c.send.new.self c.index-connections-connection.result) c.send.ensures.refused
