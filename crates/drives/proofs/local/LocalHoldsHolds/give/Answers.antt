use Rattle.std.proofs.Common.{ap}
use Rattle.drives.proofs.Held.{given_told, given_seat}
use Rattle.drives.proofs.local.LocalHoldsHolds.give.Goals as goal

pub returns-clause-told : goal.returns-clause-told
returns-clause-told c = λ d n held. given_told c.args.drive d n c.self.view_is held

pub returns-clause-own : goal.returns-clause-own
returns-clause-own c = given_seat c.args.drive c.self.view_is c.requires.seat (rw c.seat.view_is at c.count-2.ensures)

pub returns-clause-same_seats : goal.returns-clause-same_seats
returns-clause-same_seats c = ap (λ all. all.last) c.self.view_is
