use Rattle.drives.proofs.Held.{newcomer_is_seat}
use Rattle.drives.proofs.Seats.{HoldsJust_newcomer}
use Rattle.drives.proofs.local.LocalHolds.seat.Goals as goal

pub returns-clause-own : goal.returns-clause-own
returns-clause-own c = newcomer_is_seat _ _ c.self.invariant

pub returns-clause-idle : goal.returns-clause-idle
returns-clause-idle c = HoldsJust_newcomer 0
