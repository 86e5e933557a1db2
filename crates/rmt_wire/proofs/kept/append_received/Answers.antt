use Rattle.rmt_wire.proofs.Words.{ap, arith, length, length-drop, take, ℕ, ◌+◌, ◌∙◌, ◌≡◌, ◌≤◌, length-take}
use Rattle.rmt_wire.proofs.Behind.{read_behind}
use Rattle.rmt_wire.proofs.kept.append_received.Goals as goal

pub returns-clause-came : goal.returns-clause-came
returns-clause-came g c =
    let old = c.args.buffer.now.items in
    let seen = c.as_mut_slice.result.now in
    let room = c.receive.new.arg2 in
    let count = c.min-count.result in
    let len : c.len-len.result ≡ length old = c.len-len.ensures.value in
    let front : take c.len-len.result seen ≡ old = ap (λ n. take n seen) len ∙ ap (take (length old)) c.as_mut_slice.ensures.value
    ∙ c.advance_mut.ensures.front in
    let all = ap (length {A = ℕ}) c.as_mut_slice.ensures.value in
    let whole : length room ≡ c.args.size =
    omega (arith, c.receive.auto.arg2, all, len, c.advance_mut.ensures.len, length-take {A = ℕ}, length-drop {A = ℕ}) in
    let within : count ≤ length room = omega (arith, whole, c.min-count.ensures) in
    let fits : length old + count ≤ length c.advance_mut.new.self.items = omega (arith, within, whole, c.advance_mut.ensures.len) in (
      record { lent = _; told = c.receive.result; left = _; called = c.receive.ensures; whole = whole; most = c.min-count.ensures },
      read_behind old (take c.len-len.result seen) room _ _ _ c.len-len.result count _ c.truncate.ensures.items len front within fits,
    )
