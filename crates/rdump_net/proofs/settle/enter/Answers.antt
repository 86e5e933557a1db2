use Rattle.rdump_net.proofs.Words.{true, false, refl}
use Rattle.rdump_net.proofs.Observed.{both_logged}
use Rattle.rdump_net.proofs.settle.enter.Goals as goal

pub returns-then-not-enter : goal.returns-then-not-enter
returns-then-not-enter g c =
    let entered = rw c.if-not-enter.true at c.enter.ensures.logs in
    (c.complete-has_all.result, false, (c.print_text.result, both_logged g.O.DumpObserver.logs c.complete-has_all.ensures.logs entered, c.print_text.ensures, refl))

pub returns : goal.returns
returns g c =
    let entered = rw c.if-not-enter.false at c.enter.ensures.logs in
    let logged = both_logged g.O.DumpObserver.logs c.complete-has_all.ensures.logs (both_logged g.O.DumpObserver.logs entered c.forget-is_forgotten.ensures.logs) in
    (c.complete-has_all.result, true, (c.forget-is_forgotten.result, logged, refl, c.status_of.ensures))
