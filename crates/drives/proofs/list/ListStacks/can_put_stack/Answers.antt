use Rattle.drives.specs.contracts.list.ListStacks.{the_view}
use Rattle.drives.proofs.Arranging.{may_is}
use Rattle.drives.proofs.list.ListStacks.can_put_stack.Goals as goal

pub returns-then-all_differ : goal.returns-then-all_differ
returns-then-all_differ c =
    may_is (the_view c.self.inside) c.args.self.now c.args.drive c.index-chosen.result.now (λ n. n.now) c.args.names.now c.is_latched.result c.all_differ.result c.all_there.result
    c.self.view_is c.requires c.index-chosen.ensures c.is_latched.ensures c.if-is_latched.false c.all_differ.ensures c.if-all_differ.true _ _ c.deref.ensures.value c.stack.ensures c.all_there.ensures
