use Rattle.std.proofs.Common.{refl}
use Rattle.whole_files.specs.WholeFile.{whole_file}
use Rattle.rdump_dump.proofs.Dates.{then_entered}
use Rattle.rdump_dump.proofs.attendant.AttendantDumpObserverSummedSocketPeer.enter.Goals as goal

pub returns-in-Ok-clause-logs : goal.returns-in-Ok-clause-logs
returns-in-Ok-clause-logs g c = λ first log h. then_entered (whole_file g.F.WholeFile.gives g.F.WholeFile.takes) _ _ _ log _ h (_, c.in-Ok.ensures, refl)

pub returns-in-Err-clause-logs : goal.returns-in-Err-clause-logs
returns-in-Err-clause-logs g c = λ first log h. then_entered (whole_file g.F.WholeFile.gives g.F.WholeFile.takes) _ _ _ log _ h (_, c.in-Err.ensures, refl)
