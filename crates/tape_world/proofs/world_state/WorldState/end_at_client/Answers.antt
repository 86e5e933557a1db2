use Rattle.tape_world.proofs.Layers.{AttemptState, IsOwned, the_view, plain_connection, rules, refl, sym, subst, ◌≡◌, Some}
use Rattle.tape_world.proofs.Ending.{ended_step}
use Rattle.tape_world.proofs.world_state.WorldState.end_at_client.Goals as goal

pub returns : goal.returns
returns c =
    let l = plain_connection c.in-Some.conn.now in
    let dump : (d : AttemptState) × (c.in-Some.conn.now.dump ≡ Some d) = search rules in
    rw (← c.self.view_is) (
      (l, (c.in-Some.ensures, c.if-not-conn.false), c.if-not-conn-2.false),
      (
        l,
        c.in-Some.ensures,
        rw dump.1 (ended_step (the_view c.self.inside) _ c.args.connection dump.0 c.self.inside.caller c.end_attempt-self-inside.new.caller
            c.end_attempt-self-inside.result refl (subst IsOwned (sym c.self.view_is) c.requires.owned)
            (l, dump.0, c.in-Some.ensures, c.if-not-conn.false, dump.1) c.end_attempt-self-inside.ensures (rw c.end_there.ensures)),
      ),
    )
