use Rattle.tape_world.proofs.Layers.{common_steps, arith, ◌≡◌, sym, ap, ◌∙◌, option_map, the_view, seen_caller, world_of}
use Rattle.tape_world.proofs.Sending.{to_send, has_own, own_after, talked_event, talked_world}
use Rattle.tape_world.proofs.world_state.WorldState.send.Goals as goal

pub returns-in_default : goal.returns-in_default
returns-in_default c = grind (arith, common_steps, has_own)

pub send_own-requires-clause-sends : goal.send_own-requires-clause-sends
send_own-requires-clause-sends c =
    to_send c.args.self.now c.self.inside.caller (ap (λ w. w.caller) (sym c.self.view_is)) (c.is_client_in.ensures.0 c.if-not-is_client_in.false)

pub invariant_of-self-2 : goal.invariant_of-self-2
invariant_of-self-2 c =
    let now : c.if-is_some.self-inside ≡ record c.self.inside {
      connections = c.send_own.new.connections;
      caller = c.send_own.new.caller;
      own = own_after c.in_ok-failure.failure c.self.inside.own;
    } = grind (arith, common_steps) in
    grind (arith, common_steps)

pub returns : goal.returns
returns c =
    let (text, asks, is) = c.in_ok-failure.ensures.sent in
    let was = sym c.self.view_is in
    let failure = c.in_ok-failure.failure in
    let caller = option_map seen_caller c.send_own.new.caller in
    let now : c.if-is_some.self-inside ≡ record c.self.inside {
      connections = c.send_own.new.connections;
      caller = c.send_own.new.caller;
      own = own_after c.in_ok-failure.failure c.self.inside.own;
    } = grind (arith, common_steps) in
    talked_event c.args.self.now _ c.in-Some.own c.self.inside.begun.items c.self.inside.caller c.send_own.new.caller c.args.fails text failure
    (ap (λ w. w.own) was ∙ c.in-Some.is) (ap (λ w. w.begun) was) (ap (λ w. w.caller) was) c.self.invariant.0.0 asks
    (ap (λ v. world_of v.host.server v.connections.list v.begun.items v.caller v.own v.kept v.history failure v.dates) now
    ∙ ap (λ ls. record (the_view c.self.inside) { connections = ls; caller = caller; own = own_after failure c.self.inside.own; failure = failure })
    is
    ∙ ap (λ w. talked_world w c.in-Some.own text failure caller) c.self.view_is)
