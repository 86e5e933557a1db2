use Rattle.std.proofs.Common.{refl, ◌∙◌}
use Rattle.whole_files.specs.WholeFile.{whole_file}
use Rattle.rdump_dump.proofs.Dates.{then_still}
use Rattle.rdump_dump.proofs.attendant.AttendantDumpObserverSummedSocketPeer.failed.Goals as goal

pub returns-then-matches-clause-logs : goal.returns-then-matches-clause-logs
returns-then-matches-clause-logs g c = λ first log h. then_still (whole_file g.F.WholeFile.gives g.F.WholeFile.takes) _ _ _ log _ refl (c.note.ensures) h

pub returns-clause-logs : goal.returns-clause-logs
returns-clause-logs g c = λ first log h. then_still (whole_file g.F.WholeFile.gives g.F.WholeFile.takes) _ _ _ log _ refl (c.say.ensures ∙ c.note.ensures) h
