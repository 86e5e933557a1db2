use Rattle.std.proofs.Common.{None, All}
use Rattle.drives.specs.Holding.{HoldsJust}
use Rattle.hold_table.specs.Seats.{IsSeatAt}
use Rattle.rmtd_serve.proofs.idle_workers.IdleWorkers.into_seats.Given as goal

abbrev pub invariant-loop-worker : goal.invariant-loop-worker
invariant-loop-worker g l = All (λ s. IsSeatAt g.B.NamesTable.table s × HoldsJust s.view None) l.seats.items

abbrev pub decreases-loop-worker : goal.decreases-loop-worker
decreases-loop-worker g l = goal.left-loop-worker g l
