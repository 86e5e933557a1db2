use Rattle.std.proofs.Common.{ap}
use Rattle.drives.specs.declared.view.StepKind.TheVariants.{Take}
use Rattle.drives.specs.Holding.{last_step, found_by}
use Rattle.hold_table.specs.Seats.{TableSeat}
use Rattle.thread_tests.proofs.tests.of_hold_table.ended.take_beside.Goals as goal

pub returns-clause-found : goal.returns-clause-found
returns-clause-found c = λ same. c.apart-one.ensures.found.0 (last_step Take c.args.drive (found_by c.take-taken.result))
    (ap (λ (s : TableSeat). s.view.last) c.take-taken.ensures.step) same
