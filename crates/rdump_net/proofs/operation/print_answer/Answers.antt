use Rattle.rdump_net.proofs.Words.{[], ◌∷◌, ◌++◌, decimal}
use Rattle.rdump_net.proofs.Printed.{printed_both, printed_less}
use Rattle.rdump_net.proofs.operation.print_answer.Goals as goal

pub returns-then-print_number : goal.returns-then-print_number
returns-then-print_number g c =
    let head = rw (c.if-print_number.true, c.from.ensures) at c.print_number-in-Error.ensures in
    rw c.in-Error.is (printed_both g.W.Write.contents (69 ∷ (decimal c.in-Error.number ++ 32 ∷ [])) (c.in-Error.text.items ++ 10 ∷ []) c.args.out.now c.print_number-in-Error.new.out c.print_line.new.out c.print_line.result
    head (rw c.deref.ensures.value at c.print_line.ensures))

pub returns-else-print_number : goal.returns-else-print_number
returns-else-print_number g c =
    let head = rw (c.if-print_number.false, c.from.ensures) at c.print_number-in-Error.ensures in
    rw (c.if-print_number.false, c.in-Error.is) (printed_less g.W.Write.contents (69 ∷ (decimal c.in-Error.number ++ 32 ∷ [])) (c.in-Error.text.items ++ 10 ∷ []) c.args.out.now c.print_number-in-Error.new.out head)
