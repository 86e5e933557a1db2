use Rattle.rdump_net.proofs.Words.{◌≡◌, ◌∷◌, rules, count_line, count_lines}
use Rattle.rdump_net.proofs.Printed.{printed_both, printed_less}
use Rattle.rdump_net.proofs.lines.+print_counts.Goals as goal

pub returns-then-print_count : goal.returns-then-print_count
returns-then-print_count g t c =
    let e : c.args.counts.now ≡ c.in-Some.count.now ∷ c.in-Some.rest.now = search rules in
    let first = rw c.if-print_count.true at c.print_count.ensures in
    rw e (printed_both g.W.Write.contents (count_line c.in-Some.count.now) (count_lines c.in-Some.rest.now) c.args.out.now c.print_count.new.out c.print_counts.new.out _ first c.print_counts.ensures)

pub returns-else-print_count : goal.returns-else-print_count
returns-else-print_count g t c =
    let e : c.args.counts.now ≡ c.in-Some.count.now ∷ c.in-Some.rest.now = search rules in
    let first = rw c.if-print_count.false at c.print_count.ensures in
    rw (c.if-print_count.false, e) (printed_less g.W.Write.contents (count_line c.in-Some.count.now) (count_lines c.in-Some.rest.now) c.args.out.now c.print_count.new.out first)
