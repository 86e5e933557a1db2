use Rattle.std.proofs.Common.{Some, []}
use Rattle.rdump_net.proofs.Printed.{cut_short, last_alone, left_after, round_after}
use Rattle.rdump_net.proofs.rounds.ask_here.Goals as goal

pub returns-then-not-print_text-clause-printed : goal.returns-then-not-print_text-clause-printed
returns-then-not-print_text-clause-printed g c = cut_short c.args.lines.now c.requires.lines (rw c.if-not-print_text.true at c.print_text.ensures)

pub returns-in-Retry-clause-printed : goal.returns-in-Retry-clause-printed
returns-in-Retry-clause-printed g c = (c.args.lines.now, c.requires.lines, rw c.if-not-print_text.false at c.print_text.ensures)

pub returns-in-Abandon-clause-printed : goal.returns-in-Abandon-clause-printed
returns-in-Abandon-clause-printed g c =
    let counts = c.args.client.now.at.counts in
    let printed = rw c.if-not-print_text.false at c.print_text.ensures in
    round_after g.W.Write.contents counts counts c.args.client.now.at c.args.out.now c.print_text.new.out c.finish.new.out c.args.lines.now (Some c.finish.result) c.requires.lines printed (last_alone c.finish.ensures.printed)

pub returns-in-Leave-clause-printed : goal.returns-in-Leave-clause-printed
returns-in-Leave-clause-printed g c = left_after c.args.lines.now c.requires.between c.requires.lines (rw c.if-not-print_text.false at c.print_text.ensures)
