use Rattle.tape_world.proofs.Layers.{common_steps, arith, ap, IfOk-weaker, on_err_weaker}
use Rattle.tape_world.proofs.Numbered.{put_there, put_back}
use Rattle.tape_world.proofs.Serving.{serves_as}
use Rattle.tape_world.proofs.world_state.serving.take_turn_at.Goals as goal

pub returns-clause-taken : goal.returns-clause-taken
returns-clause-taken c =
    let view = ap (λ h. h.list) c.connections.view_is in
    IfOk-weaker c.take_turn.result _ _
    (λ turn. serves_as c.args.trouble c.args.host.now _ c.args.connection turn _ _ (λ f. put_there f _ _ c.args.connection _ _ view c.requires
    c.index_mut.ensures.value))
    c.take_turn.ensures.taken

pub returns-clause-refused : goal.returns-clause-refused
returns-clause-refused c = grind (arith, common_steps, on_err_weaker, put_back)
