use Rattle.rdump_net.proofs.Words.{Some, [], ◌∷◌, true, refl, inr, Ended, ConnectionEnded, OutOfMemory, alone}
use Rattle.remote_tape.proofs.Calls.{whole_talk}
use Rattle.rdump_net.proofs.Printed.{nothing_printed}
use Rattle.rdump_net.proofs.operation.mt.Goals as goal

pub returns-in_default : goal.returns-in_default
returns-in_default g c =
    let logs = alone g.P.Peer.tells c.args.peer.now in
    let printed = nothing_printed g.W.Write.contents c.args.out.now in
    record { replies = []; fault = Some OutOfMemory; passed = []; whole = true; stops = inr (refl, refl); logs = logs; printed = printed; result = refl }

pub returns-then-not-connect : goal.returns-then-not-connect
returns-then-not-connect g c =
    let cut = rw c.if-not-connect.true at c.connect.ensures in
    let printed = nothing_printed g.W.Write.contents c.args.out.now in
    record { replies = []; fault = Some ConnectionEnded; passed = Ended ∷ []; whole = true; stops = inr (refl, refl); logs = cut; printed = printed; result = refl }

pub returns : goal.returns
returns g c =
    let o = c.operate-status.ensures in
    let w = whole_talk o.fault (rw c.if-not-connect.false at c.connect.ensures) o.finishes c.hang_up.ensures in
    record { replies = o.replies; fault = o.fault; passed = w.0; whole = o.whole; stops = w.1; logs = w.2; printed = o.printed; result = o.result }
