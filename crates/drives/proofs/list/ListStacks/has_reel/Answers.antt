use Rattle.drives.proofs.Names.{library}
use Rattle.drives.proofs.Shops.{any_is_stacked, any_binned}
use Rattle.drives.proofs.list.ListStacks.has_reel.Goals as goal

pub returns-then-any_stacked : goal.returns-then-any_stacked
returns-then-any_stacked c =
    let s = library c.self.inside.drives.items c.self.inside.bin.items in
    let found = any_is_stacked c.args.name.now s _ (rw c.deref.ensures.value at c.any_stacked.ensures) c.if-any_stacked.true in
    rw (← c.self.view_is) (record { found = found; once = c.self.invariant.once })

pub returns-else-any_stacked : goal.returns-else-any_stacked
returns-else-any_stacked c =
    let s = library c.self.inside.drives.items c.self.inside.bin.items in
    let found = any_binned c.args.name.now s _ _ (rw c.deref.ensures.value at c.any_stacked.ensures) c.if-any_stacked.false
    (rw c.deref-else-any_stacked.ensures.value at c.any_named.ensures) in
    rw (← c.self.view_is) (record { found = found; once = c.self.invariant.once })
