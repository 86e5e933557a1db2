use Rattle.std.proofs.Common.{ap}
use Rattle.drives.proofs.Held.{read_is, busy_told, stays_seat}
use Rattle.drives.proofs.local.LocalHoldsHolds.take.Goals as goal

pub returns-then-found-eq0-clause-same_seats : goal.returns-then-found-eq0-clause-same_seats
returns-then-found-eq0-clause-same_seats c = ap (λ all. all.last) c.self.view_is

pub returns-else-found-eq0-clause-known : goal.returns-else-found-eq0-clause-known
returns-else-found-eq0-clause-known c = (read_is c.self.view_is c.self.invariant c.requires.seat c.requires.drive c.index-found.ensures).known

pub returns-else-found-eq0-clause-told : goal.returns-else-found-eq0-clause-told
returns-else-found-eq0-clause-told c = busy_told (read_is c.self.view_is c.self.invariant c.requires.seat c.requires.drive c.index-found.ensures) c.if-found-eq0.false

pub returns-else-found-eq0-clause-own : goal.returns-else-found-eq0-clause-own
returns-else-found-eq0-clause-own c = stays_seat c.requires.seat c.count.ensures

pub returns-else-found-eq0-clause-others : goal.returns-else-found-eq0-clause-others
returns-else-found-eq0-clause-others c = λ s other was. was
