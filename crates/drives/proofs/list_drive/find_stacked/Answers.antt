use Rattle.std.proofs.Common.{refl, ap, ◌∙◌, arith}
use Rattle.drives.specs.Arranging.{slot_named}
use Rattle.drives.proofs.Arranging.{stacked_here, stacked_on}
use Rattle.drives.proofs.list_drive.find_stacked.Goals as goal

pub returns-in-Some : goal.returns-in-Some
returns-in-Some c =
    stacked_here c.args.name.now c.args.drives.now c.loop-drive.drive-index c.drive-item.result _ (omega arith) c.drive-item.is
    (c.in-Some.ensures ∙ ap (λ slots. slot_named c.args.name.now slots) c.stack.ensures) refl c.loop-drive.invariant

pub loop-drive-preserved : goal.loop-drive-preserved
loop-drive-preserved c =
    stacked_on c.args.name.now c.args.drives.now c.loop-drive.drive-index c.drive-item.result (omega arith) c.drive-item.is
    (c.in_default.ensures ∙ ap (λ slots. slot_named c.args.name.now slots) c.stack.ensures) c.loop-drive.invariant
