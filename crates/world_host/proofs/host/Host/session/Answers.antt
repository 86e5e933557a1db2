use Rattle.std.proofs.Common.{arith, sym, ap, ◌∙◌}
use Rattle.world_host.proofs.Names.{seen_side, side_at}
use Rattle.world_host.proofs.Sides.{side_map}
use Rattle.world_host.proofs.host.Host.session.Goals as goal

pub returns-clause-seen : goal.returns-clause-seen
returns-clause-seen c =
    let seen = side_map seen_side c.self.inside.sides.items c.args.connection in
    grind (arith, seen, c.self.view_is, c.deref.ensures.value, c.in_ok-live.ensures)

pub returns-clause-number : goal.returns-clause-number
returns-clause-number c =
    (c.self.invariant.0.live c.args.connection c.in_ok-live.live.now
    (ap (λ xs. side_at xs c.args.connection) (sym c.deref.ensures.value) ∙ sym c.in_ok-live.ensures)).number
