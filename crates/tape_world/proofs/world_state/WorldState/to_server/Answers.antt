use Rattle.tape_world.proofs.Layers.{common_steps, subst, arith, sym, Unread, IsReadable, plain_connection, length, ◌≤◌, ◌++◌, take, List, ℕ}
use Rattle.tape_world.proofs.Reached.{Reaches, reaches}
use Rattle.tape_world.proofs.world_state.WorldState.to_server.Goals.{After-push}
use Rattle.tape_world.proofs.world_state.WorldState.to_server.Goals as goal

-- the bytes reached the server's side
pushed : (c : After-push) → Reaches c.self.inside.host.server c.args.connection c.args.count c.bytes-way.result.now c.push.new.self.server
pushed c =
    reaches c.self.inside.host c.args.connection c.args.count c.bytes-way.result.now c.in-Some.room c.push.result c.room.result c.push.new.self c.room.ensures
    c.in-Some.is c.if-way-count.false c.if-room-count.false c.push.ensures

pub invariant_of-self : goal.invariant_of-self
invariant_of-self c = grind (arith, common_steps, pushed)

pub returns : goal.returns
returns c =
    let push = pushed (goal.at.returns c).After-push in
    let l = plain_connection c.in-Some-find.conn.now in
    let here = c.in-Some-find.ensures in
    let few = subst (λ (b : List ℕ). c.args.count ≤ length b) c.bytes-way.ensures c.if-way-count.false in
    let readable = (subst IsReadable (sym c.self.view_is) c.requires.readable) c.args.connection push.side_is push.live in
    let unread = λ (bytes : List ℕ) (was : Unread push.side_is.reached bytes).
    subst (λ b. Unread push.reached (bytes ++ take c.args.count b)) c.bytes-way.ensures (push.unread bytes was) in
    rw (← c.self.view_is) (
      (push.side_is, l, push.live, here, (omega (arith, c.if-count-eq0.false), few), push.room),
      (push.side_is, l, push.reached, push.live, here, (readable, unread), cc),
    )
