use Rattle.std.proofs.Common.{refl, ◌∙◌}
use Rattle.whole_files.specs.WholeFile.{whole_file}
use Rattle.rdump_dump.proofs.Dates.{then_still}
use Rattle.rdump_dump.proofs.attendant.AttendantDumpObserverSummedSocketPeer.forget.Goals as goal

pub returns-in-Some-Err-clause-logs : goal.returns-in-Some-Err-clause-logs
returns-in-Some-Err-clause-logs g c = λ first log h. then_still (whole_file g.F.WholeFile.gives g.F.WholeFile.takes) _ _ _ log _ refl refl h

pub returns-in_default-checkpoint-clause-logs : goal.returns-in_default-checkpoint-clause-logs
returns-in_default-checkpoint-clause-logs g c = λ first log h. then_still (whole_file g.F.WholeFile.gives g.F.WholeFile.takes) _ _ _ log _ refl refl h

pub returns-in_default-remove-clause-logs : goal.returns-in_default-remove-clause-logs
returns-in_default-remove-clause-logs g c = λ first log h. then_still (whole_file g.F.WholeFile.gives g.F.WholeFile.takes) _ _ _ log _ refl refl h

pub returns-in-Some-failure-clause-logs : goal.returns-in-Some-failure-clause-logs
returns-in-Some-failure-clause-logs g c = λ first log h. then_still (whole_file g.F.WholeFile.gives g.F.WholeFile.takes) _ _ _ log _ refl refl h

pub returns-in-None-clause-logs : goal.returns-in-None-clause-logs
returns-in-None-clause-logs g c = λ first log h. then_still (whole_file g.F.WholeFile.gives g.F.WholeFile.takes) _ _ _ log _ refl refl h
