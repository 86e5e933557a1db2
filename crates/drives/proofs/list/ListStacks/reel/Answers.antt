use Rattle.std.proofs.Common.{None, rules}
use Rattle.std.specs.Option.{option_copied}
use Rattle.drives.proofs.ToldOrder.{named_told}
use Rattle.drives.proofs.list.ListStacks.reel.Goals as goal

pub returns-in-None-clause-told : goal.returns-in-None-clause-told
returns-in-None-clause-told c = named_told c.args.self.now c.args.name.now None (search rules)

pub returns-in-Some-clause-told : goal.returns-in-Some-clause-told
returns-in-Some-clause-told c = named_told c.args.self.now c.args.name.now (option_copied c.reel.result) (search rules)
