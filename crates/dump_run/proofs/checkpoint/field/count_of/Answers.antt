use Rattle.dump_run.proofs.Words.{decimal, arith}
use Rattle.dump_run.proofs.FieldCut.{no_cut, one_part}
use Rattle.dump_run.proofs.checkpoint.field.count_of.Goals as goal

pub returns-in_err-volume : goal.returns-in_err-volume
returns-in_err-volume c = rw c.from_residual.ensures (λ n few is. no_cut 32 c.args.text.now (decimal n.volume) _ c.in_err-volume.ensures is)

pub returns-in_err-first : goal.returns-in_err-first
returns-in_err-first c =
    let volume = c.in_ok-volume in
    rw c.from_residual-in_err-first.ensures (λ n few is.
    no_cut 32 volume.after.now (decimal n.first) (decimal n.count) c.in_err-first.ensures
    (one_part _ _ _ _ n.volume few.volume volume.ensures.0 volume.ensures.1 is).1)

pub returns-in_err-number : goal.returns-in_err-number
returns-in_err-number c =
    let volume = c.in_ok-volume in
    rw c.from_residual-in_err-number.ensures (λ n few is.
    c.in_err-number.ensures n.volume (omega arith, few.volume)
    (one_part _ _ _ _ n.volume few.volume volume.ensures.0 volume.ensures.1 is).0)

pub returns-in_err-number-2 : goal.returns-in_err-number-2
returns-in_err-number-2 c =
    let volume = c.in_ok-volume in
    let first = c.in_ok-first in
    rw c.from_residual-in_err-number-2.ensures (λ n few is.
    c.in_err-number-2.ensures n.first (omega arith, few.first)
    (one_part _ _ _ _ n.first few.first first.ensures.0 first.ensures.1
    (one_part _ _ _ _ n.volume few.volume volume.ensures.0 volume.ensures.1 is).1).0)

pub returns-in_err-number-3 : goal.returns-in_err-number-3
returns-in_err-number-3 c =
    let volume = c.in_ok-volume in
    let first = c.in_ok-first in
    rw c.from_residual-in_err-number-3.ensures (λ n few is.
    c.in_err-number-3.ensures n.count (omega arith, few.count)
    (one_part _ _ _ _ n.first few.first first.ensures.0 first.ensures.1
    (one_part _ _ _ _ n.volume few.volume volume.ensures.0 volume.ensures.1 is).1).1)
