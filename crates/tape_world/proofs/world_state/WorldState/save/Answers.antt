use Rattle.tape_world.proofs.Layers.{option_map, sym, ap, ◌∙◌, seen_caller}
use Rattle.tape_world.proofs.Saving.{backed_saved}
use Rattle.tape_world.proofs.world_state.WorldState.save.Goals as goal

pub invariant_of-self : goal.invariant_of-self
invariant_of-self c =
    let at = ap (λ w. w.caller) (sym c.self.view_is) ∙ ap (option_map seen_caller) c.in-Some.is in (
      (
        c.self.invariant.0.0,
        backed_saved c.args.self.now c.self.inside.begun.items c.in-Some.caller c.in_ok-kept.kept c.self.inside.caller c.self.inside.kept
            c.change_kept.new.kept at
            (ap (λ w. w.begun) (sym c.self.view_is)) c.requires c.in-Some.is c.self.invariant.0.0 c.change_kept.ensures c.in_ok-kept.ensures
            c.self.invariant.0.1,
      ),
      c.self.invariant.1,
    )
