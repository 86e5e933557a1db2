use Rattle.drives.proofs.ListLibrary.{reel_told, reel_quiet, told}
use Rattle.drives.proofs.list.ListStacks.add_reel.Goals as goal

pub returns-then-has_reel-clause-told : goal.returns-then-has_reel-clause-told
returns-then-has_reel-clause-told c = told c.args.self.now c.has_reel.ensures.once

pub returns-clause-told : goal.returns-clause-told
returns-clause-told c = reel_told c.args.self.now c.put_reel.new.self c.args.drive c.args.name.now c.args.capacity c.put_reel.result c.requires c.has_reel.ensures.once c.put_reel.ensures

pub returns-clause-quiet : goal.returns-clause-quiet
returns-clause-quiet c = reel_quiet c.args.self.now c.put_reel.new.self c.args.drive c.args.name.now c.args.capacity c.put_reel.result c.requires c.put_reel.ensures
