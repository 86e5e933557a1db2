use Rattle.tape_world.proofs.Layers.{rules, ◌≡◌, Some, common_steps, refl, sym, subst, arith, AttemptState, the_view, HasHeard, plain_connection, IsOwned, ◌≤◌, length, take, List, ℕ}
use Rattle.tape_world.proofs.Clients.{sourced_same}
use Rattle.tape_world.proofs.HearingWorld.{attempts, counts_kept, heard_step}
use Rattle.tape_world.proofs.world_state.WorldState.to_client.Goals as goal

pub hear-heard-requires : goal.hear-heard-requires
hear-heard-requires c =
    let some : (d : AttemptState) × (c.in-Some.conn.now.dump ≡ Some d) = search rules in
    attempts (the_view c.self.inside) c.self.inside.caller c.args.connection refl (subst IsOwned (sym c.self.view_is) c.requires.owned)
    (plain_connection c.in-Some.conn.now, some.0, c.in-Some.ensures, c.if-not-conn.false, some.1)

pub invariant_of-self-2 : goal.invariant_of-self-2
invariant_of-self-2 c = grind (arith, common_steps, sourced_same)

pub returns : goal.returns
returns c =
    let l = plain_connection c.in-Some.conn.now in
    let some : (d : AttemptState) × (c.in-Some.conn.now.dump ≡ Some d) = search rules in
    let heard = c.hear-heard.result in
    let kept = counts_kept c.self.inside.history c.reserve_count.new.self c.keep.new.self heard.run c.reel_of-reel.result c.args.connection heard.count
    c.reserve_count.ensures.same c.reel_of-reel.ensures c.keep.ensures in
    let few = subst (λ (b : List ℕ). c.args.count ≤ length b) c.bytes-way.ensures c.if-way-count.false in
    rw (← c.self.view_is) (
      (l, (c.in-Some.ensures, c.if-not-conn.false), (omega (arith, c.if-count-eq0.false), few)),
      (
        l,
        c.in-Some.ensures,
        heard_step (the_view c.self.inside) _ c.args.connection c.args.count l.dump some.0 (take c.args.count l.back) c.self.inside.caller
            c.hear-heard.new.caller heard
            some.1 refl (subst (λ b. HasHeard c.self.inside.caller (take c.args.count b) heard c.hear-heard.new.caller) c.bytes-way.ensures
            c.hear-heard.ensures)
            (rw (kept, c.deliver_or_leave.ensures.connections, c.deliver_or_leave.ensures.own)),
      ),
    )
