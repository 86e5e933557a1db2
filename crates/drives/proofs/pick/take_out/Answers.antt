use Rattle.std.proofs.Common.{[], rules, Some, None, sym, ap, ◌∙◌}
use Rattle.drives.proofs.Names.{bytes_eq, TroubledTape, ReelSlot, slot}
use Rattle.drives.proofs.Arranging.{place_none, place_some}
use Rattle.drives.proofs.pick.take_out.Goals as goal

pub returns-in_default : goal.returns-in_default
returns-in_default c =
    let p = λ (x : ReelSlot TroubledTape). bytes_eq c.args.name.now x.name in
    let none = place_none p c.args.reels.now.items (rw c.deref.ensures.value at (sym c.place_of.ensures ∙ c.in_default.is)) in
    record { taken = sym none.0; left = sym none.1; room = search rules }

pub remove-requires : goal.remove-requires
remove-requires c =
    let p = λ (x : ReelSlot TroubledTape). bytes_eq c.args.name.now x.name in
    let is = rw c.deref.ensures.value at (sym c.place_of.ensures ∙ c.in-Some.is) in
    let found = place_some p c.args.reels.now.items c.in-Some.place (slot [] None) is in
    rw c.args.reels.now.ok.0 found.0

pub returns : goal.returns
returns c =
    let p = λ (x : ReelSlot TroubledTape). bytes_eq c.args.name.now x.name in
    let is = rw c.deref.ensures.value at (sym c.place_of.ensures ∙ c.in-Some.is) in
    let found = place_some p c.args.reels.now.items c.in-Some.place c.remove.result is in
    record { taken = ap (λ x. Some x) c.remove.ensures.value ∙ sym found.1; left = c.remove.ensures.by_index.2 ∙ sym found.2; room = search rules }
