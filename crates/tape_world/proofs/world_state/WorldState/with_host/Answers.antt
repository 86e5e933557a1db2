use Rattle.tape_world.proofs.Layers.{rules, ap}
use Rattle.tape_world.proofs.Made.{known_new}
use Rattle.tape_world.proofs.world_state.WorldState.with_host.Goals as goal

pub invariant_of-result : goal.invariant_of-result
invariant_of-result c = (
  search rules,
  known_new c.in_ok-history.history.names c.args.host.server.library c.args.drives.now c.in_ok-history.ensures.names (ap (λ h. h.library) c.requires),
)
