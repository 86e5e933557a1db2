use Rattle.std.proofs.Common.{◌∙◌}
use Rattle.hex.specs.Hex.{encode_lower}
use Rattle.dump_run.proofs.LabelReading.{are_small}
use Rattle.catalog.proofs.LineText.{cut_text, sum_lacks, name_lacks, is_small}
use Rattle.catalog.proofs.fields.cut_fields.Goals as goal

pub returns : goal.returns
returns c = λ l more good is.
    (let few = are_small l.label good.label in let (count, size) = is_small l good in
    let sum = c.cut.ensures (encode_lower l.sum) _ (sum_lacks l.sum good.sum) (is ∙ cut_text l more) in
    let name = c.cut-2.ensures l.label.name _ (name_lacks l.label.name good.label.name) sum.1 in
    let level = c.cut_number-level.ensures l.label.level _ few.level name.1 in
    let date = c.cut_number-date.ensures l.label.date _ few.date level.1 in
    let since = c.cut_number-since.ensures l.label.since _ few.since date.1 in
    let volume = c.cut_number-volume.ensures l.label.volume _ few.volume since.1 in
    let first = c.cut_number-first.ensures l.label.first _ few.first volume.1 in
    let blocks = c.cut_number-blocks.ensures l.blocks _ count first.1 in
    let bytes = c.cut_number-block_bytes.ensures l.block_bytes _ size blocks.1 in
    record {
      sum = sum.0;
      name = name.0;
      level = level.0;
      date = date.0;
      since = since.0;
      volume = volume.0;
      first = first.0;
      blocks = blocks.0;
      block_bytes = bytes.0;
    })
