use Rattle.std.proofs.Common.{None}
use Rattle.drives.specs.Holding.{HoldsJust}
use Rattle.hold_table.specs.Seats.{IsSeatAt}
use Rattle.rmtd_serve.proofs.Closed.{pushed}
use Rattle.rmtd_serve.proofs.idle_workers.IdleWorkers.into_seats.Goals as goal

pub loop-worker-preserved : goal.loop-worker-preserved
loop-worker-preserved g c = pushed (λ s. IsSeatAt g.B.NamesTable.table s × HoldsJust s.view None) _ _ _ _ c.push.ensures.items c.loop-worker.invariant
    (c.into_seat.ensures.seat, c.into_seat.ensures.idle)
