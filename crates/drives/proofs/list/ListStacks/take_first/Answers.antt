use Rattle.drives.proofs.Names.{None, library}
use Rattle.drives.proofs.ListLibrary.{stocked_first, latch_fails}
use Rattle.drives.proofs.list.ListStacks.take_first.Goals as goal

pub invariant_of-self : goal.invariant_of-self
invariant_of-self c =
    stocked_first (library c.self.inside.drives.items c.self.inside.bin.items) c.args.drive c.index_mut-chosen.result.now c.latch.new.self None _ _
    (rw (← c.self.view_is) at c.requires) c.index_mut-chosen.ensures.value c.latch.ensures.away c.self.invariant

pub invariant_of-self-2 : goal.invariant_of-self-2
invariant_of-self-2 c =
    stocked_first (library c.self.inside.drives.items c.self.inside.bin.items) c.args.drive c.index_mut-chosen.result.now c.latch.new.self None _ _
    (rw (← c.self.view_is) at c.requires) c.index_mut-chosen.ensures.value c.latch.ensures.away c.self.invariant

pub returns-then-is_ready-clause-latched : goal.returns-then-is_ready-clause-latched
returns-then-is_ready-clause-latched c = latch_fails c.args.drive _ c.self.view_is c.if-self.true c.requires c.index-chosen.ensures c.if-is_ready.ensures (cc) (cc)

pub returns-then-is_ready-clause-once : goal.returns-then-is_ready-clause-once
returns-then-is_ready-clause-once c = rw (← c.self.view_is) c.self.invariant.once

pub returns-in_default-clause-once : goal.returns-in_default-clause-once
returns-in_default-clause-once c = rw (← c.self.view_is) c.self.invariant.once

pub returns-clause-once : goal.returns-clause-once
returns-clause-once c = rw (← c.self.view_is) c.self.invariant.once
