use Rattle.hold_table.proofs.Names.{◌∷◌, ap, ◌∙◌, arith, SeatGroup, AtomicSeat, first_of, others_of, TableSeat}
use Rattle.hold_table.proofs.Allowed.{invites, dismisses}
use Rattle.hold_table.proofs.Witnesses.{comes_back, put_back}
use Rattle.hold_table.proofs.table.HoldTable.+take_among.Goals as goal

pub join_seat-requires : goal.join_seat-requires
join_seat-requires d c = (grind arith, grind arith, ap (λ m. m.1) c.other.invariant.0, c.self.invariant.1, invites _ _ _ _ _ (ap (λ m. m.0) c.seat.invariant.0) (ap (λ m. m.0) c.other.invariant.0))

pub split_seat-witness-requires : goal.split_seat-witness-requires
split_seat-witness-requires d c =
    let beside = ap (λ (s : TableSeat). s.beside) (c.seat-2.view_is ∙ c.take_among-taken.ensures.step) ∙ ap (λ (m : AtomicSeat). others_of m.0) c.join_seat.ensures.2 in
    (grind arith, c.self.invariant.1, dismisses _ _ _ _ _ _ (ap (λ m. m.0) c.seat-2.invariant.0 ∙ ap (λ (g : SeatGroup). first_of c.seat-2.inside.seat.me.0 ∷ g) beside))

pub returns-clause-others : goal.returns-clause-others
returns-clause-others d c =
    let beside = ap (λ (s : TableSeat). s.beside) (c.seat-2.view_is ∙ c.take_among-taken.ensures.step) ∙ ap (λ (m : AtomicSeat). others_of m.0) c.join_seat.ensures.2 in
    put_back c.pop.new.self.items c.in-Some.other c.in-Some.ensures.items c.take_among-taken.ensures.others c.push_reserved.ensures.items (comes_back c.other.inside.seat.me c.split_seat-witness.ensures.4 beside
    (grind (arith, c.split_seat-witness.ensures, c.seat-2.view_is, c.take_among-taken.ensures.step, c.join_seat.ensures)) c.other.view_is)
