use Rattle.std.proofs.Common.{refl}
use Rattle.world_host.proofs.Linked.{front_put, front_end}
use Rattle.world_host.proofs.connection.end_all_here.Goals as goal

pub loop-conn-init : goal.loop-conn-init
loop-conn-init c = refl

pub loop-conn-preserved : goal.loop-conn-preserved
loop-conn-preserved c =
    front_put c.loop-conn.connections c.args.connections.now c.loop-conn.conn-index c.end_here.new.self c.conn-item.result c.loop-conn.invariant c.loop-conn-test.true c.end_here.ensures

pub returns : goal.returns
returns c = front_end c.loop-conn.connections c.args.connections.now c.loop-conn.conn-index c.loop-conn.invariant c.loop-conn-test.false
