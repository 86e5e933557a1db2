use Rattle.tape_world.proofs.Layers.{with_no_failure, restarted, ServerRestart, IsWorldKept, the_view, refl, sym, ap, subst, ◌∙◌, length}
use Rattle.tape_world.proofs.Server.{all_ended_is}
use Rattle.tape_world.proofs.Known.{known_after}
use Rattle.tape_world.proofs.world_state.WorldState.server_restart.Goals as goal

pub invariant_of-self : goal.invariant_of-self
invariant_of-self c =
    let w = the_view c.self.inside in
    let same = c.kept.ensures.names w (restarted (with_no_failure w)) ServerRestart (subst IsWorldKept (sym c.self.view_is) c.requires) (tt, refl) in (
      c.self.invariant.0,
      known_after _ w (restarted (with_no_failure w)) c.restart.new.self.server.library same
          (ap (λ h. h.server.library) c.restart.ensures ∙ ap (λ h. h.library) (all_ended_is w.server (length w.server.sides))) c.self.invariant.1,
    )

pub returns : goal.returns
returns c = (tt, rw (← c.self.view_is, c.end_all_here.ensures, c.restart.ensures, all_ended_is))
