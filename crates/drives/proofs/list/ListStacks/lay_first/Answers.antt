use Rattle.drives.proofs.Names.{Some, library, the_view}
use Rattle.drives.proofs.Elsewhere.{value_some}
use Rattle.drives.proofs.ListLibrary.{stocked_first, read_some}
use Rattle.drives.proofs.list.ListStacks.lay_first.Goals as goal

pub unlatch-requires : goal.unlatch-requires
unlatch-requires c =
    read_some (the_view c.self.inside) c.args.self.now c.args.drive c.index_mut-chosen.result.now c.self.view_is c.requires.drive c.index_mut-chosen.ensures.value
    (value_some (the_view c.self.inside) c.args.self.now c.args.drive _ _ c.self.view_is c.self.invariant c.requires.latched)

pub invariant_of-self : goal.invariant_of-self
invariant_of-self c =
    stocked_first (library c.self.inside.drives.items c.self.inside.bin.items) c.args.drive c.index_mut-chosen.result.now c.unlatch.new.self (Some c.args.reel) _ _
    (rw (← c.self.view_is) at c.requires.drive) c.index_mut-chosen.ensures.value c.unlatch.ensures c.self.invariant

pub returns-clause-once : goal.returns-clause-once
returns-clause-once c = rw (← c.self.view_is) c.self.invariant.once
