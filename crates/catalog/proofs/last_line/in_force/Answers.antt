use Rattle.std.proofs.Common.{subst}
use Rattle.catalog.specs.Run.{IsLast, IsUpTo}
use Rattle.catalog.proofs.Last.{none_last}
use Rattle.catalog.proofs.last_line.in_force.Goals as goal

pub returns-in_err-at-clause-none : goal.returns-in_err-at-clause-none
returns-in_err-at-clause-none c = λ none v forced same.
    none_last (IsUpTo c.args.id.now c.args.number) c.args.lines.now forced.0 (rw c.in_err-at.was at c.last_up_to.ensures)
    (subst (λ n. IsLast (IsUpTo c.args.id.now n) c.args.lines.now forced.0) same forced.1)
