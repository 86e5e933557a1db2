use Rattle.sockets.proofs.Colon.{no_port, parts_of}
use Rattle.sockets.proofs.address.has_port.Goals as goal

pub returns-in-Some : goal.returns-in-Some
returns-in-Some c =
    let split = c.in-Some.ensures in
    let parts = parts_of c.args.text.now c.in-Some.host.now c.in-Some.port.now split.0 split.1 in (
      (λ yes.
          let both = c.is_host_and_port.ensures.0 yes in
          (c.in-Some.host.now, c.in-Some.port.now, split.0, both.0, both.1)),
      λ has. c.is_host_and_port.ensures.1 (parts has),
    )

pub returns-in-None : goal.returns-in-None
returns-in-None c =
    let none = no_port c.args.text.now c.in-None.ensures in
    ((λ yes. absurd cc), λ has. absurd (none has))
