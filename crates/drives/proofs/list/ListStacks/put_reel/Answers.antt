use Rattle.drives.proofs.Names.{◌≡◌, ◌+◌, ◌≤◌, Some, set, vec_capacity, ap, arith, set-get_or, library, blank_reel}
use Rattle.drives.proofs.ListLibrary.{stocked_reel, stocked_same, bin_fits}
use Rattle.drives.proofs.list.ListStacks.put_reel.Goals as goal

pub invariant_of-self-in_err-push : goal.invariant_of-self-in_err-push
invariant_of-self-in_err-push c =
    let before = library c.self.inside.drives.items c.self.inside.bin.items in
    let same : library (set before.drives c.args.drive c.push.new.self) c.reserve.new.self.items ≡ before
    = rw (c.in_err-push.ensures, c.index_mut-chosen.ensures.value, c.reserve.ensures.items)
    (ap (λ rs. library rs before.bin) (set-get_or before.drives c.args.drive c.index_mut-chosen.result.now)) in
    stocked_same before _ c.self.inside.reels _ _ same c.reserve.ensures.capacity c.self.invariant

pub invariant_of-self-2 : goal.invariant_of-self-2
invariant_of-self-2 c =
    let before = library c.self.inside.drives.items c.self.inside.bin.items in
    let few = bin_fits before c.self.inside.reels _ c.self.invariant in
    let more : c.self.inside.reels + 1 ≤ vec_capacity c.reserve.new.self
    = omega (arith, few, c.self.inside.bin.ok.0, c.len.ensures, c.reserve.ensures.len, c.in_ok-reserve.ensures.ok) in
    rw c.reserve.ensures.items
    (stocked_reel before c.args.drive c.index_mut-chosen.result.now c.push.new.self c.args.name.now (Some (blank_reel c.args.capacity))
    c.self.inside.reels _ _ (rw (← c.self.view_is) at c.requires.drive) c.index_mut-chosen.ensures.value
    (rw c.in_ok-reel.ensures at c.in_ok-push.ensures) (rw (← c.self.view_is) at c.requires.free) more c.self.invariant)
