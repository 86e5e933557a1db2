use Rattle.rdump_net.proofs.Printed.{cut_short, lines_since, round_after}
use Rattle.rdump_net.proofs.rounds.report.Goals as goal

pub returns-then-not-print_since-clause-printed : goal.returns-then-not-print_since-clause-printed
returns-then-not-print_since-clause-printed g c = λ first n grows.
    let lines = lines_since first c.args.client.now.at.counts c.args.before n grows in
    cut_short _ lines (rw c.if-not-print_since.true at c.print_since.ensures)

pub returns-clause-printed : goal.returns-clause-printed
returns-clause-printed g c = λ first n grows.
    let at = c.args.client.now.at in
    let lines = lines_since first at.counts c.args.before n grows in
    round_after g.W.Write.contents first at.counts at c.args.out.now c.print_since.new.out c.report_outcome.new.out _ c.report_outcome.result
    lines (rw c.if-not-print_since.false at c.print_since.ensures) c.report_outcome.ensures.printed
