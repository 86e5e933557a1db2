use Rattle.catalog.proofs.LineText.{volume_appended}
use Rattle.catalog.proofs.text.push_volume.Goals as goal

pub returns : goal.returns
returns c =
    volume_appended c.args.label.now c.args.blocks c.args.block_bytes c.args.text.now.items _ _ _ _ _ _ _ _ _
    (rw (c.as_bytes.ensures.value, c.name.ensures.told) at c.in_ok-extend_from_slice.ensures.items)
    (rw (c.from.ensures, c.level.ensures.told) at c.in_ok-push_number.ensures) (rw c.date.ensures.told at c.in_ok-push_number-2.ensures)
    (rw c.since.ensures.told at c.in_ok-push_number-3.ensures) (rw (c.from-2.ensures, c.volume.ensures.told) at c.in_ok-push_number-4.ensures)
    (rw (c.from-3.ensures, c.first.ensures.told) at c.in_ok-push_number-5.ensures) c.in_ok-push_number-6.ensures c.in_ok-push_number-7.ensures
    c.in_ok-extend_from_slice-2.ensures.items
