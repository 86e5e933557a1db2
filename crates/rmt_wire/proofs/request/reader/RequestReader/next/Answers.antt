use Rattle.rmt_wire.proofs.Words.{refl, drop-drop, err_from_is_err_and}
use Rattle.rmt_wire.proofs.Nexts.{seen_from}
use Rattle.rmt_wire.proofs.request.reader.RequestReader.next.Goals as goal

pub first_request-requires-clause-dropped : goal.first_request-requires-clause-dropped
first_request-requires-clause-dropped c = rw (seen_from _ _ c.as_slice.ensures) c.self.invariant.3

pub returns-in-None : goal.returns-in-None
returns-in-None c =
    let seen = seen_from _ _ c.as_slice.ensures in
    rw (← c.self.view_is) ((refl, λ x. tt, rw (c.in-None.is, seen) at c.in_ok-first_request.ensures.next), record { rests = tt; for_good = tt })

pub returns-in-Some : goal.returns-in-Some
returns-in-Some c =
    let items = c.self.inside.buffer.items in
    rw (← c.self.view_is, ← drop-drop c.in-Some.len c.self.inside.start items)
    ((refl, λ x. tt, rw (c.in-Some.is, seen_from _ _ c.as_slice.ensures) at c.in_ok-first_request.ensures.next), record { rests = tt; for_good = tt })

pub returns-in_err-first_request : goal.returns-in_err-first_request
returns-in_err-first_request c =
    let p = err_from_is_err_and c.from_residual.result c.from_residual.ensures.1 in
    let seen = seen_from _ _ c.as_slice.ensures in
    rw (← c.self.view_is, p.1, p.2)
    ((refl, λ x. tt, rw seen at c.in_err-first_request.ensures.next), record { rests = tt; for_good = rw seen at c.in_err-first_request.ensures.for_good })
