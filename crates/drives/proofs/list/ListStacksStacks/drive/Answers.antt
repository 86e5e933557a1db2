use Rattle.drives.proofs.ListLibrary.{named_rest}
use Rattle.drives.proofs.list.ListStacksStacks.drive.Goals as goal

pub returns-clause-named : goal.returns-clause-named
returns-clause-named c = named_rest c.args.self.now c.args.name.now c.number_of.result c.number_of.ensures.found
