use Rattle.rdump_net.proofs.Words.{failed, none}
use Rattle.rdump_net.proofs.Printed.{cut_short}
use Rattle.rdump_net.proofs.rounds.report_failed.Goals as goal

pub returns-else-print_failure-clause-printed : goal.returns-else-print_failure-clause-printed
returns-else-print_failure-clause-printed g c = cut_short _ (failed c.args.fault none) (rw c.if-print_failure.false at c.print_failure.ensures)
