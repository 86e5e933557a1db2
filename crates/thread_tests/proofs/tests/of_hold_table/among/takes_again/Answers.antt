use Rattle.thread_tests.proofs.Lent.{all_lone}
use Rattle.thread_tests.proofs.tests.of_hold_table.among.takes_again.Goals as goal

pub takes_free-requires-2-clause-others : goal.takes_free-requires-2-clause-others
takes_free-requires-2-clause-others c = all_lone _ _ _ _ c.takes_free.ensures.others c.requires.others
