use Rattle.thread_tests.proofs.Lent.{names}
use Rattle.thread_tests.proofs.tests.of_hold_table.among.takes_beside.Goals as goal

pub returns : goal.returns
returns c = λ k o at holds. names _ _ c.args.seat.now _ c.take_among.ensures.found k o at holds
