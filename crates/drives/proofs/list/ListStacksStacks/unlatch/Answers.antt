use Rattle.drives.specs.Calls.StacksCall.{LayBack}
use Rattle.drives.proofs.Calls.{list_call, at_latched}
use Rattle.drives.proofs.list.ListStacksStacks.unlatch.Goals as goal

pub returns : goal.returns
returns c =
    let at = at_latched c.args.self.now c.args.drive c.requires.drive c.lay_first.ensures.once c.requires.latched in
    list_call c.args.self.now c.lay_first.new.self (LayBack c.args.drive c.args.reel) at c.lay_first.ensures.once c.lay_first.ensures.laid
