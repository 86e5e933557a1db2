use Rattle.server_tests.proofs.tests.of_rmt_server.two.end.Goals as goal

pub returns-clause-other : goal.returns-clause-other
returns-clause-other c = c.one_holder.ensures.others _ _ _ _ _ c.requires.at c.requires.other c.requires.apart c.end.ensures.at c.end.ensures.kept
