use Rattle.std.proofs.Common.{refl}
use Rattle.catalog.proofs.Last.{verdict_by}
use Rattle.catalog.proofs.catalog.verdict.Goals as goal

pub returns : goal.returns
returns c =
    verdict_by c.args.lines.now _ _ c.args.label.now c.args.sum.now c.id.result.now c.in-Some.at c.run_verdict.result c.id.ensures c.in-Some.ensures refl refl
    c.run_verdict.ensures
