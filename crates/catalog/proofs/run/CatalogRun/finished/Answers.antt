use Rattle.std.proofs.Common.{sym, subst}
use Rattle.catalog.specs.Run.{IsLast, IsPastBegun}
use Rattle.catalog.proofs.Last.{none_last}
use Rattle.catalog.proofs.run.CatalogRun.finished.Goals as goal

pub returns-in_err-at-clause-none : goal.returns-in_err-at-clause-none
returns-in_err-at-clause-none c = λ none f done.
    none_last (IsPastBegun c.id.result.now) c.args.self.now.after.now done.0 (rw c.in_err-at.was at c.last_past_begun.ensures)
    (subst (λ d. IsLast (IsPastBegun d) c.args.self.now.after.now done.0) (sym c.id.ensures) done.1)
