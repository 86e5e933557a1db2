use Rattle.std.proofs.Common.{refl}
use Rattle.dumpdates.proofs.Terms.{err_from_is_err_and, plain_entry}
use Rattle.dumpdates.proofs.file.read_line.Goals as goal

pub returns-in_err-append-in-Ok-Some-clause-refused : goal.returns-in_err-append-in-Ok-Some-clause-refused
returns-in_err-append-in-Ok-Some-clause-refused c =
    let p = err_from_is_err_and c.from_residual.result c.from_residual.ensures.1 in
    rw (p.1, p.2) (plain_entry c.in-Ok-Some.entry, rw c.in-Ok-Some.field-0-is at c.in-Ok-Some.ensures)

pub returns-in-Err-NoDate-clause-refused : goal.returns-in-Err-NoDate-clause-refused
returns-in-Err-NoDate-clause-refused c = (refl, rw c.in-Err-NoDate.field-0-is at c.in-Err-NoDate.ensures)
