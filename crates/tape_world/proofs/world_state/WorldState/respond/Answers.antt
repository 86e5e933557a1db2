use Rattle.tape_world.proofs.Layers.{rules, ap, ◌∙◌}
use Rattle.tape_world.proofs.Clients.{answered}
use Rattle.tape_world.proofs.Saving.{kept_seen}
use Rattle.tape_world.proofs.world_state.WorldState.respond.Goals as goal

pub returns : goal.returns
returns c =
    let asks = c.is_client_in.ensures.0 (search rules) in
    let at = ap (λ w. w.caller) c.self.view_is ∙ asks.1 in
    let (reader, stage, is) = answered c.self.inside.caller c.give_answer.new.caller c.args.answer asks.0 at asks.2 c.give_answer.ensures in
    rw (← c.self.view_is) ((asks.0, at, stage), (asks.0, reader, at, stage, rw (is, c.drop_kept.ensures, kept_seen)))
