use Rattle.std.proofs.Common.{[], rules, ap}
use Rattle.rdump_fetch.proofs.compared_sink.ComparedSink.begin.Goals as goal

pub returns-clause-begun : goal.returns-clause-begun
returns-clause-begun g c =
    (search rules, search rules, search rules, (λ some lawful. c.add.ensures.added (rw (ap (λ s. s.sums) c.self.view_is) some) lawful [] c.new-self-inside.ensures))
