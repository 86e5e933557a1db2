use Rattle.catalog.proofs.LineText.{finished_appended}
use Rattle.catalog.proofs.text.push_finished.Goals as goal

pub returns : goal.returns
returns c =
    finished_appended c.args.finished.now c.args.text.now.items _ _ _ _ _ _ _ c.in_ok-extend_from_slice.ensures.items
    (rw c.id.ensures at c.in_ok-push_id.ensures) (rw (c.from.ensures, c.volumes.ensures.told) at c.in_ok-push_number.ensures)
    (rw (c.from-2.ensures, c.blocks-2.ensures.told) at c.in_ok-push_number-2.ensures)
    (rw (c.from-3.ensures, c.block_bytes.ensures.told) at c.in_ok-push_number-3.ensures) (rw c.bytes.ensures at c.in_ok-push_number-4.ensures)
    c.in_ok-extend_from_slice-2.ensures.items
