use Rattle.dump_run.proofs.Words.{arith, length, ◌≡◌, both_ways}
use Rattle.dump_run.proofs.LabelReading.{other_length, other_rest, whole_record}
use Rattle.dump_run.proofs.volume_label.VolumeLabel.read.Goals as goal

pub returns-then-bytes-ne-LABEL_BYTES : goal.returns-then-bytes-ne-LABEL_BYTES
returns-then-bytes-ne-LABEL_BYTES c = other_length c.args.bytes.now (λ long. (let branch = c.if-bytes-ne-LABEL_BYTES.true in grind arith))

pub returns-then-not-are_zeros : goal.returns-then-not-are_zeros
returns-then-not-are_zeros c =
    let found = c.in_ok-label in
    other_rest c.args.bytes.now found.rest.now found.label found.ensures.0 found.ensures.1
    (λ zeros. both_ways c.are_zeros.result c.if-not-are_zeros.true (c.are_zeros.ensures.1 zeros))

pub returns : goal.returns
returns c =
    let found = c.in_ok-label in
    let long : length c.args.bytes.now ≡ 1024 = (let branch = c.if-bytes-ne-LABEL_BYTES.false in grind arith) in
    (found.ensures.0, whole_record c.args.bytes.now found.rest.now found.label long found.ensures.1 (c.are_zeros.ensures.0 c.if-not-are_zeros.false))
