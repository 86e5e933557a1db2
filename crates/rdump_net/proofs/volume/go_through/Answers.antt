use Rattle.rdump_net.proofs.Words.{[], ◌∷◌, false, refl, next_of, is_fault}
use Rattle.rdump_net.proofs.Reading.{extends_none, given_none, through_part, through_end}
use Rattle.rdump_net.proofs.volume.go_through.Goals as goal

pub returns-in_err-begin : goal.returns-in_err-begin
returns-in_err-begin g c =
    rw (is_fault c.from_residual.ensures.1) (through_part c.in_err-begin.field-0.0 (extends_none c.args.peer.now [])
    (given_none c.args.device.now c.args.after false c.args.sink.now c.in_err-begin.field-0.0 refl (c.in_err-begin.ensures c.args.after false)))

pub returns-in_err-records : goal.returns-in_err-records
returns-in_err-records g c =
    let b = c.in_ok-begin.ensures c.args.after false in
    rw (is_fault c.from_residual-in_err-records.ensures.1) (through_part c.in_err-records.field-0.0 b.4
    (c.in_err-records.ensures c.args.device.now c.args.after false (b.0 ∷ b.1 ∷ []) (b.0, b.1, refl, b.2, b.3)))

pub returns : goal.returns
returns g c =
    let m = c.conclude.ensures in
    let next = next_of c.args.device.now c.args.after m.0 in
    let b = c.in_ok-begin.ensures c.args.after m.0 in
    let y = c.in_ok-records.ensures c.args.device.now c.args.after m.0 (b.0 ∷ b.1 ∷ []) (b.0, b.1, refl, b.2, b.3) in
    through_end m.0 b.4 y c.after_for_count.ensures
    (m.1 next y.later (rw c.after_for_count.ensures y.reads.1))
