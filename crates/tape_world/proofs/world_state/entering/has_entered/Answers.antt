use Rattle.tape_world.proofs.Layers.{common_steps, arith, ap, ◌∙◌, list_any, ◌==◌, RealEntered}
use Rattle.tape_world.proofs.Saving.{entered_found}
use Rattle.tape_world.proofs.world_state.entering.has_entered.Goals as goal

pub returns : goal.returns
returns c =
    let is = c.has_run.ensures ∙ ap (list_any (λ (e : RealEntered). e.run == c.args.run)) c.deref.ensures.value in
    let found = entered_found c.history.inside.entered.items c.args.run in
    grind (arith, common_steps, entered_found)
