use Rattle.remote_tape.proofs.Words.{◌++◌, ◌∷◌, [], inr, map, refl, take, length-append, length-take, plain_wanted, Given, Ended, arith, alone, both}
use Rattle.remote_tape.proofs.Heard.{waiting_anew}
use Rattle.remote_tape.proofs.Calls.{none_came, some_came}
use Rattle.remote_tape.proofs.tape.hear.Goals as goal

pub loop-turn-init : goal.loop-turn-init
loop-turn-init g c =
    ([], waiting_anew (plain_wanted c.args.wanted) c.expect.new.self (c.expect.ensures.waits c.clear.ensures), alone g.P.Peer.tells c.args.peer.now, omega arith)

pub loop-turn-preserved : goal.loop-turn-preserved
loop-turn-preserved g c =
    let w = c.loop-turn.invariant in
    let came = c.receive.ensures in
    let some = c.if-receive-eq0.false in
    let more = length-append w.0 (take c.receive.result came.room) in
    let count = length-take c.receive.result came.room in (
      w.0 ++ take c.receive.result came.room,
      c.if-not-is_waiting.ensures.more refl _ _ (came.unread _ w.0 w.1.unread),
      some_came g.P.Peer.tells w.0 c.loop-turn.reader c.receive.new.reader c.receive.result w.2 came some,
      omega (arith, w.3, more, count, came.within, some),
    )

pub returns-then-receive-eq0 : goal.returns-then-receive-eq0
returns-then-receive-eq0 g c =
    let w = c.loop-turn.invariant in
    let ended = none_came g.P.Peer.tells (plain_wanted c.args.wanted) w.0 c.loop-turn.reader c.receive.new.reader c.receive.result w.1 c.receive.ensures c.if-receive-eq0.true in
    (map Given w.0 ++ Ended ∷ [], (w.0, w.1.begun, refl), both g.P.Peer.tells w.2 ended)

pub returns-then-not-is_waiting : goal.returns-then-not-is_waiting
returns-then-not-is_waiting g c =
    let w = c.loop-turn.invariant in
    let came = c.receive.ensures in
    let unread = came.unread _ w.0 w.1.unread in (
      w.0 ++ take c.receive.result came.room,
      unread,
      c.if-not-is_waiting.ensures.enough refl _ _ unread,
      some_came g.P.Peer.tells w.0 c.loop-turn.reader c.receive.new.reader c.receive.result w.2 came c.if-receive-eq0.false,
    )

pub returns : goal.returns
returns g c =
    let w = c.loop-turn.invariant in
    (map Given w.0, (w.0, inr (inr (w.1.begun, omega (arith, w.3, c.loop-turn-test.false))), refl), w.2)
