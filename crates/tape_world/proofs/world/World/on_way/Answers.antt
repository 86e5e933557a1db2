use Rattle.tape_world.proofs.Layers.{plain_connection, the_view, ap, ◌∙◌}
use Rattle.tape_world.proofs.Told.{can_come, cannot_come, way_told}
use Rattle.tape_world.proofs.world.World.on_way.Goals as goal

pub returns-then-not-conn : goal.returns-then-not-conn
returns-then-not-conn c =
    let w = the_view c.self-inside.inside.0.0 in
    let l = plain_connection c.in_ok-conn.conn.now in
    way_told w _ c.args.connection l c.room.result c.unwrap_or-room.result c.min-toward.result 0 c.bytes.result.now
    (ap (λ i. i.world_state) c.self-inside.view_is ∙ c.self.view_is) c.kept.ensures.kept.readable c.in_ok-conn.ensures c.room.ensures c.unwrap_or-room.ensures
    c.bytes.ensures c.min-toward.ensures (cannot_come w c.args.connection l c.in_ok-conn.ensures c.if-not-conn.true)

pub returns : goal.returns
returns c =
    let w = the_view c.self-inside.inside.0.0 in
    let l = plain_connection c.in_ok-conn.conn.now in
    way_told w _ c.args.connection l c.room.result c.unwrap_or-room.result c.min-toward.result _ c.bytes.result.now
    (ap (λ i. i.world_state) c.self-inside.view_is ∙ c.self.view_is) c.kept.ensures.kept.readable c.in_ok-conn.ensures c.room.ensures c.unwrap_or-room.ensures
    c.bytes.ensures c.min-toward.ensures (can_come w c.args.connection l c.bytes-2.result.now c.in_ok-conn.ensures c.if-not-conn.false c.bytes-2.ensures)
