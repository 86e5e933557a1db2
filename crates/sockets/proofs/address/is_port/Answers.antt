use Rattle.std.proofs.Common.{◌≡◌, arith}
use Rattle.std.proofs.lemmas.Bool.{le-leb, leb-true}
use Rattle.sockets.proofs.Colon.{not_false}
use Rattle.sockets.proofs.address.is_port.Goals as goal

pub returns-in-None : goal.returns-in-None
returns-in-None c = ((λ yes. absurd (not_false yes)), λ has. absurd (c.in-None.ensures has.0))

pub returns-in-Some : goal.returns-in-Some
returns-in-Some c =
    let says = c.in-Some.ensures in
    let last : c.from.result ≡ 65535 = c.from.ensures in (
      (λ yes. let within = leb-true c.in-Some.number c.from.result yes in (says.0, omega (arith, within, says.1, last))),
      λ has. le-leb c.in-Some.number c.from.result (omega (arith, has.1, says.1, last)),
    )
