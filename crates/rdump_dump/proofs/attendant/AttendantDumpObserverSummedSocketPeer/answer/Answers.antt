use Rattle.std.proofs.Common.{refl, ◌∙◌}
use Rattle.whole_files.specs.WholeFile.{whole_file}
use Rattle.rdump_dump.proofs.Dates.{then_still}
use Rattle.rdump_dump.proofs.attendant.AttendantDumpObserverSummedSocketPeer.answer.Goals as goal

pub returns-in-true-clause-logs : goal.returns-in-true-clause-logs
returns-in-true-clause-logs g c = λ first log h. then_still (whole_file g.F.WholeFile.gives g.F.WholeFile.takes) _ _ _ log _ refl (c.clear.ensures) h

pub returns-in-false-clause-logs : goal.returns-in-false-clause-logs
returns-in-false-clause-logs g c = λ first log h. then_still (whole_file g.F.WholeFile.gives g.F.WholeFile.takes) _ _ _ log _ refl (c.clear.ensures) h

pub returns-then-waits-clause-logs : goal.returns-then-waits-clause-logs
returns-then-waits-clause-logs g c = λ first log h. then_still (whole_file g.F.WholeFile.gives g.F.WholeFile.takes) _ _ _ log _ refl (c.clear.ensures) h

pub returns-then-is_none-clause-logs : goal.returns-then-is_none-clause-logs
returns-then-is_none-clause-logs g c = λ first log h. then_still (whole_file g.F.WholeFile.gives g.F.WholeFile.takes) _ _ _ log _ refl (c.say.ensures ∙ c.clear.ensures) h

pub returns-clause-logs : goal.returns-clause-logs
returns-clause-logs g c = λ first log h. then_still (whole_file g.F.WholeFile.gives g.F.WholeFile.takes) _ _ _ log _ refl (c.say-2.ensures ∙ c.clear.ensures) h
