use Rattle.std.proofs.Common.{[], ◌∷◌}
use Rattle.rdump_net.proofs.Printed.{printed_less}
use Rattle.rdump_net.proofs.operation.print_line.Goals as goal

pub returns-else-print_text : goal.returns-else-print_text
returns-else-print_text g c =
    let text = rw c.if-print_text.false at c.print_text.ensures in
    rw c.if-print_text.false (printed_less g.W.Write.contents c.args.text.now (10 ∷ []) c.args.out.now c.print_text.new.out text)
