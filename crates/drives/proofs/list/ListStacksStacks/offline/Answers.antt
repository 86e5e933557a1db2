use Rattle.drives.proofs.Names.{moved_result, Move}
use Rattle.drives.proofs.Calls.{list_call, at_latched}
use Rattle.drives.proofs.list.ListStacksStacks.offline.Goals as goal

pub returns-clause-call : goal.returns-clause-call
returns-clause-call c =
    let at = at_latched c.args.self.now c.args.drive c.requires.drive c.move_first.ensures.once c.requires.latched in
    list_call c.args.self.now c.move_first.new.self (Move c.args.drive c.args.reel (moved_result c.move_first.result)) at c.move_first.ensures.once c.move_first.ensures.moved
