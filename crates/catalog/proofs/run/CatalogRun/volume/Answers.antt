use Rattle.std.proofs.Common.{sym, subst}
use Rattle.catalog.specs.Run.{IsInForce}
use Rattle.catalog.proofs.run.CatalogRun.volume.Goals as goal

pub returns-clause-none : goal.returns-clause-none
returns-clause-none c = λ none v forced same.
    c.in_force.ensures.none none v (subst (λ d. IsInForce c.args.self.now.after.now d v) (sym c.id.ensures) forced) same
