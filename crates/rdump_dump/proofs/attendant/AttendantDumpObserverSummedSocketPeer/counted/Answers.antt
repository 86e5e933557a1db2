use Rattle.std.proofs.Common.{◌≡◌, refl, ◌∙◌}
use Rattle.whole_files.specs.WholeFile.{whole_file}
use Rattle.rdump_dump.proofs.Dates.{then_still}
use Rattle.rdump_dump.proofs.attendant.AttendantDumpObserverSummedSocketPeer.counted.Goals as goal
use Rattle.rdump_dump.proofs.attendant.AttendantDumpObserverSummedSocketPeer.counted.Goals.{in-Some, in_default, in-Some-catalog, in-None}

pub returns-clause-logs : goal.returns-clause-logs
returns-clause-logs g c = λ first log h.
    let one : c.match-self.self.kept.dates ≡ c.args.self.now.kept.dates = elim c.match-self.branch [ in-Some w ↦ rw w.self-is refl | in_default w ↦ rw w.self-is refl ] in
    let two : c.match-self-2.self.kept.dates ≡ c.match-self.self.kept.dates = elim c.match-self-2.branch [ in-Some-catalog w ↦ rw w.self-is refl | in-None w ↦ rw w.self-is refl ] in
    then_still (whole_file g.F.WholeFile.gives g.F.WholeFile.takes) _ _ _ log _ refl (c.report_missing.ensures ∙ two ∙ one) h
