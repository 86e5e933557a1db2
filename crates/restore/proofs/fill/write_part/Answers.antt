use Rattle.std.proofs.Common.{◌≡◌, ◌∙◌, ◌*◌, ◌-◌, min, ap, refl, arith}
use Rattle.std.specs.List.{concat}
use Rattle.restore.proofs.Writing.{is_fault}
use Rattle.restore.proofs.Zeros.{begun_zeros_before, part_written}
use Rattle.restore.proofs.fill.write_part.Goals as goal

pub returns-in_err-write_zeros-clause-written : goal.returns-in_err-write_zeros-clause-written
returns-in_err-write_zeros-clause-written g c = λ reels blocks held found.
    (let volume = c.args.volume.now in
    let missing : c.saturating_sub-missing.result ≡ volume.label.first - c.args.end = omega arith in
    let count = c.min-count.ensures ∙ ap (λ n. min (n * volume.block_bytes) c.args.left) missing in
    rw (is_fault c.from_residual.ensures.1) (begun_zeros_before _ _ c.args.left ((volume.label.first - c.args.end) * volume.block_bytes) c.min-count.result (concat blocks)
    count c.in_err-write_zeros.ensures))

pub returns-clause-written : goal.returns-clause-written
returns-clause-written g c = λ reels blocks held found.
    (let volume = c.args.volume.now in
    let missing : c.saturating_sub-missing.result ≡ volume.label.first - c.args.end = omega arith in
    let count = c.min-count.ensures ∙ ap (λ n. min (n * volume.block_bytes) c.args.left) missing in
    part_written _ _ _ c.args.left ((volume.label.first - c.args.end) * volume.block_bytes) c.min-count.result (c.args.left - c.min-count.result) (concat blocks)
    c.write_volume.result count refl c.in_ok-write_zeros.ensures (c.write_volume.ensures.written reels blocks held found))
