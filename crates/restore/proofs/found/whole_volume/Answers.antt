use Rattle.std.proofs.Common.{◌∙◌, ap, arith, sym, refl}
use Rattle.volume_check.specs.declared.holding.Volume.{Volume}
use Rattle.restore.proofs.Whole.{is_found, same_volume, size_bound, whole_file, whole_of}
use Rattle.restore.proofs.found.whole_volume.Goals as goal
use Rattle.restore.proofs.found.whole_volume.Goals.{then-volume-from-via-then-volume-from, then-volume-from-via-else-volume-from+then-volume-gt-RECORD_LIMIT}

pub returns-in_default : goal.returns-in_default
returns-in_default c = λ bytes told label size blocks v.
    c.in_default.not-Volume (whole_of label size blocks) (is_found bytes c.args.contents c.one_holding.ensures told label size blocks v).0

pub returns-then-tail-ne0 : goal.returns-then-tail-ne0
returns-then-tail-ne0 c = λ bytes told label size blocks v.
    c.if-tail-ne0.true (is_found bytes c.args.contents c.one_holding.ensures told label size blocks v).1

pub returns-then-volume-from : goal.returns-then-volume-from
returns-then-volume-from c = λ bytes told label size blocks v.
    (let is = same_volume (sym c.in-Volume.is ∙ (is_found bytes c.args.contents c.one_holding.ensures told label size blocks v).0) in
    let small = size_bound size blocks v.sizes in
    let count = ap (λ (x : Volume). x.blocks) is in
    let bytes_are = ap (λ (x : Volume). x.block_bytes) is in
    elim c.then-volume-from.branch [
      | then-volume-from-via-then-volume-from w ↦ absurd (omega (arith, v.few))
      | then-volume-from-via-else-volume-from+then-volume-gt-RECORD_LIMIT w ↦ absurd (omega arith)
    ])

pub returns : goal.returns
returns c = λ bytes told.
    (refl, whole_file bytes c.args.contents c.in-Volume.volume told c.in-Volume.is c.if-tail-ne0.false c.in-OneMark.is (omega arith))

pub returns-in_default-end : goal.returns-in_default-end
returns-in_default-end c = λ bytes told label size blocks v.
    (let is = same_volume (sym c.in-Volume.is ∙ (is_found bytes c.args.contents c.one_holding.ensures told label size blocks v).0) in
    c.in_default-end.not-OneMark (ap (λ (x : Volume). x.end) is))
