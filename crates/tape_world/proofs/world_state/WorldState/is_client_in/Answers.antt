use Rattle.tape_world.proofs.Layers.{rules, ap, sym}
use Rattle.tape_world.proofs.Clients.{stands}
use Rattle.tape_world.proofs.world_state.WorldState.is_client_in.Goals as goal

pub returns-in-Some : goal.returns-in-Some
returns-in-Some c =
    stands c.args.self.now c.self.inside.caller c.in-Some.caller c.state.result c.args.state c.eq.result (ap (λ w. w.caller) (sym c.self.view_is)) c.in-Some.is
    c.state.ensures.state (search rules)
