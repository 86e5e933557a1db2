use Rattle.std.proofs.Common.{refl, ◌∙◌}
use Rattle.whole_files.specs.WholeFile.{whole_file}
use Rattle.rdump_dump.proofs.Dates.{then_still}
use Rattle.rdump_dump.proofs.attendant.AttendantDumpObserverSummedSocketPeer.may_begin.Goals as goal

pub returns-in_default-clause-logs : goal.returns-in_default-clause-logs
returns-in_default-clause-logs g c = λ first log h. then_still (whole_file g.F.WholeFile.gives g.F.WholeFile.takes) _ _ _ log _ refl (c.find_obstacle.ensures) h

pub returns-clause-logs : goal.returns-clause-logs
returns-clause-logs g c = λ first log h. then_still (whole_file g.F.WholeFile.gives g.F.WholeFile.takes) _ _ _ log _ refl (c.clear.ensures ∙ c.note.ensures ∙ c.find_obstacle.ensures) h
