use Rattle.drives.proofs.Names.{flat_map, Some, refl, option_copied}
use Rattle.drives.proofs.Arranging.{found_or, found_below}
use Rattle.drives.proofs.list.ListStacks.listed.Goals as goal

pub returns-in-Some : goal.returns-in-Some
returns-in-Some c =
    let stacks = flat_map (λ r. r.stack) c.self.inside.drives.items in
    let here = rw c.deref.ensures.value at c.in-Some.ensures in
    rw (← c.self.view_is) (found_or c.args.name.now stacks c.self.inside.bin.items (Some c.in-Some.listed.now) here refl)

pub returns : goal.returns
returns c =
    let stacks = flat_map (λ r. r.stack) c.self.inside.drives.items in
    let none = rw c.deref.ensures.value at c.in_default.ensures in
    let here = rw c.deref-2.ensures.value at c.find_named.ensures in
    rw (← c.self.view_is) (found_below c.args.name.now stacks c.self.inside.bin.items (option_copied c.find_named.result) none here)
