use Rattle.drives.specs.Calls.StacksCall.{Latch}
use Rattle.drives.proofs.Calls.{list_call}
use Rattle.drives.proofs.list.ListStacksStacks.latch.Goals as goal

pub returns : goal.returns
returns c = list_call c.args.self.now c.take_first.new.self (Latch c.args.drive c.take_first.result) c.requires c.take_first.ensures.once c.take_first.ensures.latched
