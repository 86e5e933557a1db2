use Rattle.std.proofs.Common.{refl}
use Rattle.world_host.proofs.Names.{seen_side}
use Rattle.world_host.proofs.Sides.{side_map}
use Rattle.world_host.proofs.host.Host.room.Goals as goal

pub returns : goal.returns
returns c =
    rw (← c.self.view_is, side_map seen_side c.self.inside.sides.items c.args.connection, ← c.deref.ensures.value, ← c.in_ok-side.ensures)
    (c.room.result, refl, c.room.ensures)
