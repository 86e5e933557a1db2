use Rattle.std.proofs.Common.{◌∙◌}
use Rattle.catalog.proofs.LineText.{line_appended}
use Rattle.catalog.proofs.text.push_volume_line.Goals as goal

pub returns : goal.returns
returns c =
    line_appended c.args.line.now _ _ _ c.args.text.now.items _ _ _ _ _ c.label.ensures (c.from.ensures ∙ c.blocks-2.ensures.told)
    (c.from-2.ensures ∙ c.block_bytes.ensures.told) (rw c.sum.ensures at c.in_ok-push_hex.ensures) c.in_ok-extend_from_slice.ensures.items
    c.in_ok-push_volume.ensures (rw c.bytes.ensures at c.in_ok-push_number.ensures) c.in_ok-extend_from_slice-2.ensures.items
