use Rattle.hold_table.proofs.Names.{[], ap, arith}
use Rattle.hold_table.proofs.Allowed.{joins_at}
use Rattle.hold_table.proofs.table.HoldTable.add_seat.Goals as goal

pub join_seat-requires : goal.join_seat-requires
join_seat-requires c = (grind arith, grind arith, ap (λ m. m.1) c.next.invariant.0, c.self.invariant.1, joins_at _ _ _ [] _ _ (ap (λ m. m.0) c.next.invariant.0))

pub returns-clause-more : goal.returns-clause-more
returns-clause-more c = grind (arith, c.join_seat.ensures.2, c.next.invariant.0, c.next.view_is)
