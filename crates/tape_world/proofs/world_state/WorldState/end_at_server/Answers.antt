use Rattle.tape_world.proofs.Layers.{common_steps, arith, refl, ap, subst, sym, ◌∙◌, World, with_no_failure, ended_at, EndAtServer, Possible, IsWorldKept, the_view}
use Rattle.tape_world.proofs.Server.{ended_is, side_found}
use Rattle.tape_world.proofs.Known.{known_after}
use Rattle.tape_world.proofs.world_state.WorldState.end_at_server.Goals.{After-end}
use Rattle.tape_world.proofs.world_state.WorldState.end_at_server.Goals as goal

-- the connection is there, cut, and live at the server
possible : (c : After-end) → Possible (the_view c.self.inside) (EndAtServer c.args.connection)
possible c = grind (arith, common_steps, side_found)

pub invariant_of-self : goal.invariant_of-self
invariant_of-self c =
    let w = the_view c.self.inside in
    let u = ended_at (with_no_failure w) c.args.connection in
    let same = c.kept.ensures.names w u (EndAtServer c.args.connection) (subst IsWorldKept (sym c.self.view_is) c.requires)
    (possible (goal.at.invariant_of-self c).After-end, refl) in (
      c.self.invariant.0,
      known_after _ w u c.end.new.self.server.library same (ap (λ h. h.server.library) c.end.ensures
          ∙ ap (λ h. h.library) (ended_is w.server c.args.connection))
          c.self.invariant.1,
    )

pub returns : goal.returns
returns c = (
  subst (λ (v : World). Possible v (EndAtServer c.args.connection)) c.self.view_is (possible (goal.at.returns c).After-end),
  rw
      (← c.self.view_is, c.end_here.ensures, c.end.ensures, ended_is),
)
