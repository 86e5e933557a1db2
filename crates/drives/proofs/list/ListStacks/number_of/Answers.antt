use Rattle.drives.proofs.list.ListStacks.number_of.Goals as goal

pub returns-clause-once : goal.returns-clause-once
returns-clause-once c = rw (← c.self.view_is) c.self.invariant.once
