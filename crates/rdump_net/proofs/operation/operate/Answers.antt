use Rattle.rdump_net.proofs.Words.{Some, Close, true, refl, plain_number}
use Rattle.rdump_net.proofs.Operating.{asked_call, told_then_closed}
use Rattle.refusals.specs.declared.request.TapeRequest.TheVariants as asked
use Rattle.rdump_net.proofs.Printed.{nothing_printed}
use Rattle.rdump_net.proofs.operation.operate.Goals as goal

pub returns-in_default : goal.returns-in_default
returns-in_default g c =
    let w = c.in_default.ensures in
    record { replies = w.0; fault = Some c.in_default.field-0; whole = true; finishes = w.1; printed = rw w.2 (nothing_printed g.W.Write.contents c.args.out.now); result = rw w.2 refl }

pub returns : goal.returns
returns g c =
    let closed = asked_call g.P.Peer.tells _ _ Close asked.Close c.close.result c.close.ensures in
    told_then_closed g.P.Peer.tells c.args.device.now c.args.op c.args.count (plain_number c.in-Ok.answer) closed.0 c.in-Ok.ensures c.print_reply-status.ensures closed.1
