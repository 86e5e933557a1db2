use Rattle.drives.proofs.ListLibrary.{stack_at}
use Rattle.drives.proofs.ToldOrder.{stack_told}
use Rattle.drives.proofs.list.ListStacks.stack.Goals as goal

pub returns-clause-lying : goal.returns-clause-lying
returns-clause-lying c = stack_at c.args.drive c.self.view_is c.requires c.index-chosen.ensures c.stack.ensures

pub returns-clause-told : goal.returns-clause-told
returns-clause-told c = stack_told c.args.self.now c.args.drive c.stack.result.now (stack_at c.args.drive c.self.view_is c.requires c.index-chosen.ensures c.stack.ensures)
