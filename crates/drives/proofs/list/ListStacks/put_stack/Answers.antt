use Rattle.drives.proofs.Names.{◌≡◌, ap, map, set, set-get_or, library}
use Rattle.drives.proofs.ListLibrary.{stocked_same}
use Rattle.drives.proofs.Arranging.{stocked_arranged}
use Rattle.drives.proofs.list.ListStacks.put_stack.Goals as goal

pub returns-in_err-stack-clause-once : goal.returns-in_err-stack-clause-once
returns-in_err-stack-clause-once c = rw (← c.self.view_is) c.self.invariant.once

pub returns-in_err-lay_off-clause-once : goal.returns-in_err-lay_off-clause-once
returns-in_err-lay_off-clause-once c = rw (← c.self.view_is) c.self.invariant.once

pub returns-clause-once : goal.returns-clause-once
returns-clause-once c = rw (← c.self.view_is) c.self.invariant.once

pub invariant_of-self : goal.invariant_of-self
invariant_of-self c =
    let before = library c.self.inside.drives.items c.self.inside.bin.items in
    let put : library (set before.drives c.args.drive c.lay_off.new.self) c.lay_off.new.bin.items ≡ before
    = rw (c.in_err-lay_off.ensures.stack, c.index_mut-chosen.ensures.value, c.in_err-lay_off.ensures.bin)
    (ap (λ rs. library rs before.bin) (set-get_or before.drives c.args.drive c.index_mut-chosen.result.now)) in
    stocked_same before _ c.self.inside.reels _ _ put c.lay_off.ensures.room c.self.invariant

pub invariant_of-self-2 : goal.invariant_of-self-2
invariant_of-self-2 c =
    let before = library c.self.inside.drives.items c.self.inside.bin.items in
    let names = map (λ n. n.now) c.args.names.now in
    stocked_arranged before c.args.drive c.index_mut-chosen.result.now c.lay_on.new.self names c.pick.new.onto.items c.pick.new.reels.items
    c.self.inside.reels _ _ (rw (← c.self.view_is) at c.requires) c.index_mut-chosen.ensures.value
    (rw c.in_ok-lay_off.ensures.stack at c.lay_on.ensures)
    (rw (c.in_ok-stack.ensures.items, c.in_ok-lay_off.ensures.bin) at c.pick.ensures.picked) (rw c.in_ok-lay_off.ensures.bin at c.pick.ensures.left)
    (rw c.pick.ensures.room c.lay_off.ensures.room) c.self.invariant
