use Rattle.std.proofs.Common.{◌≡◌, ◌++◌, Some, sym, ap, ◌∙◌, arith}
use Rattle.catalog.proofs.OneLine.{finished_id, same_pair}
use Rattle.catalog.proofs.read_line.read_finished.Goals as goal

pub returns-in_err-id : goal.returns-in_err-id
returns-in_err-id c = λ f more good is.
    (let cut = c.cut_id.ensures f.id _ good.id (is ∙ finished_id f more) in let clash = sym c.in_err-id.was ∙ cut.1 in cc)

pub returns : goal.returns
returns c = λ f more good is.
    (let cut = c.cut_id.ensures f.id _ good.id (is ∙ finished_id f more) in let (id, rest) = same_pair c.in_ok-id.id f.id c.in_ok-id.rest cut.0 (sym c.in_ok-id.was ∙ cut.1) in
    let volumes = c.cut_number-volumes.ensures f.volumes _ (omega (arith, good.volumes)) (ap (λ r. r.now) rest ∙ cut.2) in
    let blocks = c.cut_number-blocks.ensures f.blocks _ (omega (arith, good.blocks)) volumes.1 in
    let size = c.cut_number-block_bytes.ensures f.block_bytes _ (omega (arith, good.block_bytes)) blocks.1 in
    let bytes = c.cut_number-bytes.ensures f.bytes _ good.bytes size.1 in
    c.finished_of.ensures f good id volumes.0 blocks.0 size.0 bytes.0)
