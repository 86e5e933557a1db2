use Rattle.tape_world.proofs.Layers.{common_steps, arith, false, map, refl, sym, subst, ◌≡◌, IsWorldKept, with_no_failure, Happens, Arrange, the_view}
use Rattle.tape_world.proofs.Known.{known_after}
use Rattle.tape_world.proofs.world_state.WorldState.arrange.Goals.{After-is_err}
use Rattle.tape_world.proofs.world_state.WorldState.arrange.Goals as goal

-- the reels are laid there
happens : (c : After-is_err) → c.is_err.result ≡ false → Happens (the_view c.self.inside) (Arrange c.args.drive.now (map (λ n. n.now) c.args.reels.now))
    (record (with_no_failure (the_view c.self.inside)) { server = c.arrange.new.self.server })
happens c fine = grind (arith, common_steps)

pub invariant_of-self-2 : goal.invariant_of-self-2
invariant_of-self-2 c =
    let w = the_view c.self.inside in
    let same = c.kept.ensures.names w _ (Arrange c.args.drive.now (map (λ n. n.now) c.args.reels.now)) (subst IsWorldKept (sym c.self.view_is) c.requires)
    (happens (goal.at.invariant_of-self-2 c).After-is_err c.if-is_err.false) in (
      c.self.invariant.0,
      known_after _ w (record (with_no_failure w) { server = c.arrange.new.self.server }) c.arrange.new.self.server.library same refl c.self.invariant.1,
    )
