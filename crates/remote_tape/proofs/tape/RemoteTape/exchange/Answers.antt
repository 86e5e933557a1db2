use Rattle.remote_tape.proofs.Words.{map, subst, plain_request, Err, Given, IsReplyHeard}
use Rattle.remote_tape.proofs.Calls.{heard_call}
use Rattle.remote_tape.proofs.tape.RemoteTape.exchange.Goals as goal

pub returns-in-Ok-hear : goal.returns-in-Ok-hear
returns-in-Ok-hear g c =
    let sent = c.send.ensures in
    let told = rw (c.as_slice.ensures.value, c.in-Ok.ensures.appended, c.clear.ensures.items, c.if-not-send.false) at sent.1 in
    let heard = rw c.wanted_of.ensures at c.in-Ok-hear.ensures in
    heard_call g.P.Peer.tells (plain_request c.args.request.now) _ sent.0 told sent.2
    (map Given heard.0, c.whole_reply.ensures _ heard.0 heard.1 heard.2, heard.3)

pub returns-in-Err : goal.returns-in-Err
returns-in-Err g c =
    let sent = c.send.ensures in
    let told = rw (c.as_slice.ensures.value, c.in-Ok.ensures.appended, c.clear.ensures.items, c.if-not-send.false) at sent.1 in
    heard_call g.P.Peer.tells (plain_request c.args.request.now) _ sent.0 told sent.2
    (subst (λ w. IsReplyHeard g.P.Peer.tells w (Err c.in-Err.fault) c.send.new.self c.hear.new.peer) c.wanted_of.ensures c.in-Err.ensures)
