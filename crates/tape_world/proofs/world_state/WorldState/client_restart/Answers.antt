use Rattle.tape_world.proofs.Layers.{common_steps, arith, sym, subst, IsSourced, ResumesRunWith}
use Rattle.tape_world.proofs.Saving.{back_sourced, back_step}
use Rattle.tape_world.proofs.world_state.WorldState.client_restart.Goals as goal

pub invariant_of-self : goal.invariant_of-self
invariant_of-self c =
    let came : ResumesRunWith c.self.inside.begun.items c.self.inside.kept c.in_ok-caller.caller
    = subst (λ begun. ResumesRunWith begun c.self.inside.kept c.in_ok-caller.caller) c.deref.ensures.value c.in_ok-caller.ensures in
    let back = back_sourced c.self.inside.begun.items c.self.inside.kept c.in_ok-caller.caller came in
    ((subst (IsSourced c.self.inside.begun.items) (sym c.change_caller.ensures) back, c.self.invariant.0.1), c.self.invariant.1)

pub returns : goal.returns
returns c = grind (arith, common_steps, back_step)
