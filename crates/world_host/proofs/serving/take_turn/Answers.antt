use Rattle.std.proofs.Common.{Ok, refl, ap, ◌∙◌}
use Rattle.world_host.proofs.Given.{next_nothing}
use Rattle.world_host.proofs.serving.take_turn.Goals as goal

pub returns-in-Ok-None : goal.returns-in-Ok-None
returns-in-Ok-None c =
    let n = next_nothing c.args.reader.now c.next.follows.lender-at-none c.next.result c.next.follows.holds-at-none
    (c.in-Ok-None.is ∙ ap Ok c.in-Ok-None.field-0-is) in
    (n.0, n.1, refl, refl)
