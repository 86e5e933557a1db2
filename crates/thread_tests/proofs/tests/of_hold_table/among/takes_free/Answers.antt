use Rattle.std.proofs.Common.{ap, ◌∙◌}
use Rattle.drives.specs.Holding.{taken}
use Rattle.hold_table.specs.Seats.{next}
use Rattle.thread_tests.proofs.Lent.{held_of, held_has, free}
use Rattle.thread_tests.proofs.tests.of_hold_table.among.takes_free.Goals as goal

pub returns-clause-taken : goal.returns-clause-taken
returns-clause-taken c = held_of _ _ _ _ c.take_among.ensures.answer
    (free _ _ c.args.seat.now _ _ c.take_among.ensures.found c.requires.all c.requires.seat.2 c.requires.seat.1 c.requires.others)

pub returns-clause-step : goal.returns-clause-step
returns-clause-step c = c.take_among.ensures.step ∙ ap (λ n. next c.args.seat.now (taken c.args.seat.now.view c.args.drive n))
    (free _ _ c.args.seat.now _ _ c.take_among.ensures.found c.requires.all c.requires.seat.2 c.requires.seat.1 c.requires.others)

pub returns-clause-held : goal.returns-clause-held
returns-clause-held c = held_has _ _ _ _ c.take_among.ensures.answer
    (free _ _ c.args.seat.now _ _ c.take_among.ensures.found c.requires.all c.requires.seat.2 c.requires.seat.1 c.requires.others)
