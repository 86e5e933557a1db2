use Rattle.std.proofs.Common.{◌<◌}
use Rattle.hold_table.specs.Seats.{IsSeatAt}
use Rattle.thread_tests.proofs.tests.of_hold_table.race.race.Given as goal

abbrev pub invariant-loop : goal.invariant-loop
invariant-loop l = IsSeatAt l.table l.seat × (0 < l.table.words)
