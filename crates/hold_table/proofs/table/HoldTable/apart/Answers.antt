use Rattle.hold_table.proofs.Names.{ap, ◌∙◌, arith}
use Rattle.hold_table.proofs.Allowed.{invites, compares, dismisses, pair_of}
use Rattle.hold_table.proofs.table.HoldTable.apart.Goals as goal

pub join_seat-requires : goal.join_seat-requires
join_seat-requires c = (grind arith, grind arith, ap (λ m. m.1) c.other.invariant.0, c.self.invariant.1, invites _ _ _ _ _ (ap (λ m. m.0) c.one.invariant.0) (ap (λ m. m.0) c.other.invariant.0))

pub load-found-requires : goal.load-found-requires
load-found-requires c = (grind arith, grind arith, compares _ _ _ _ _ _ _ _ (pair_of _ c.one.inside.seat.me c.other.inside.seat.me c.join_seat.ensures.2 c.one.invariant.0))

pub split_seat-second-requires : goal.split_seat-second-requires
split_seat-second-requires c =
    let pair = c.load-found.ensures.2.0 ∙ pair_of _ c.one.inside.seat.me c.other.inside.seat.me c.join_seat.ensures.2 c.one.invariant.0 in
    (grind arith, c.self.invariant.1, dismisses _ _ _ _ _ _ (ap (λ m. m.0) pair))
