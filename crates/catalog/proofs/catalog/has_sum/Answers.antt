use Rattle.std.proofs.Common.{◌↔◌, IsTrue, sym, subst}
use Rattle.catalog.specs.Verdict.{HasSum}
use Rattle.catalog.proofs.Places.{sum_by}
use Rattle.catalog.proofs.catalog.has_sum.Goals as goal

pub returns : goal.returns
returns c =
    subst (λ b. IsTrue b ↔ HasSum c.args.lines.now c.args.label.now c.args.sum.now) (sym c.is_some.ensures)
    (sum_by c.args.lines.now c.args.label.now c.args.sum.now c.last_of_sum.result c.last_of_sum.ensures)
