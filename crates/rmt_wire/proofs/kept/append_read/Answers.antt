use Rattle.rmt_wire.proofs.Words.{ap, arith, length, length-drop, sym, take, ℕ, ◌+◌, ◌∙◌, ◌≡◌, ◌≤◌, length-take}
use Rattle.rmt_wire.proofs.Behind.{read_behind}
use Rattle.rmt_wire.proofs.kept.append_read.Goals as goal

pub returns-in-Ok-clause-came : goal.returns-in-Ok-clause-came
returns-in-Ok-clause-came g c =
    let old = c.args.buffer.now.items in
    let seen = c.as_mut_slice.result.now in
    let buf = c.read.new.buf in
    let count = c.in-Ok.count in
    let within = c.in-Ok.ensures.bound in
    let len : c.len-len.result ≡ length old = c.len-len.ensures.value in
    let front : take c.len-len.result seen ≡ old = ap (λ n. take n seen) len ∙ ap (take (length old)) c.as_mut_slice.ensures.value
    ∙ c.advance_mut.ensures.front in
    let size = ap (length {A = ℕ}) c.as_mut_slice.ensures.value in
    let fits : length old + count ≤ length c.advance_mut.new.self.items =
    omega (arith, within.0, c.read.auto.buf, size, len, c.advance_mut.ensures.len, length-take {A = ℕ}, length-drop {A = ℕ}) in (
      take count buf,
      sym within.1,
      read_behind old (take c.len-len.result seen) buf _ _ _ c.len-len.result count _ c.truncate.ensures.items len front within.0 fits,
      c.in-Ok.ensures.bytes.0,
    )

pub returns-in-Ok-clause-most : goal.returns-in-Ok-clause-most
returns-in-Ok-clause-most g c =
    omega (
      arith,
      c.in-Ok.ensures.bound.0,
      c.read.auto.buf,
      ap (length {A = ℕ}) c.as_mut_slice.ensures.value,
      c.advance_mut.ensures.len,
      length-take {A = ℕ},
      length-drop {A = ℕ},
    )
