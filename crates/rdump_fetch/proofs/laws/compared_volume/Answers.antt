use Rattle.rdump_fetch.proofs.ComparedCalls.{passes, kept}
use Rattle.rdump_fetch.proofs.laws.compared_volume.Goals as goal

pub returns-clause-passes : goal.returns-clause-passes
returns-clause-passes g c = passes g.S.VolumeSink.takes

pub returns-clause-kept : goal.returns-clause-kept
returns-clause-kept g c = kept g.S.VolumeSink.takes c.one_label.ensures.one
