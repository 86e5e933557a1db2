use Rattle.std.proofs.Common.{map, ◌∙◌}
use Rattle.drives.proofs.ToldOrder.{may_told}
use Rattle.drives.proofs.list.ListStacks.can_arrange.Goals as goal

pub returns-clause-told : goal.returns-clause-told
returns-clause-told c = c.can_put_stack.ensures ∙ may_told c.args.self.now c.args.drive (map (λ n. n.now) c.args.names.now)
