use Rattle.std.proofs.Common.{◌≡◌, refl, ◌∙◌}
use Rattle.whole_files.specs.WholeFile.{whole_file}
use Rattle.rdump_dump.proofs.Dates.{then_still}
use Rattle.rdump_dump.proofs.attendant.AttendantDumpObserverSummedSocketPeer.complete.Goals as goal
use Rattle.rdump_dump.proofs.attendant.AttendantDumpObserverSummedSocketPeer.complete.Goals.{in-Some, in-None}

pub returns-clause-logs : goal.returns-clause-logs
returns-clause-logs g c = λ first log h.
    let same : c.match-self.self.kept.dates ≡ c.args.self.now.kept.dates = elim c.match-self.branch [ in-Some w ↦ rw w.self-is refl | in-None w ↦ rw w.self-is refl ] in
    then_still (whole_file g.F.WholeFile.gives g.F.WholeFile.takes) _ _ _ log _ refl (c.report_missing.ensures ∙ same) h
