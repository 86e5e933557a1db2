use Rattle.tape_world.proofs.Layers.{refl}
use Rattle.tape_world.proofs.Made.{none_latched, first_server}
use Rattle.tape_world.proofs.world_state.WorldState.new.Goals as goal

pub new-requires-clause-rested : goal.new-requires-clause-rested
new-requires-clause-rested c = none_latched c.in_ok-stacks.stacks c.args.drives.now c.in_ok-stacks.ensures.laid

pub with_host-requires : goal.with_host-requires
with_host-requires c = first_server c.in_ok-host.host c.in_ok-stacks.stacks c.args.drives.now _ c.in_ok-stacks.ensures.laid c.in_ok-host.ensures.server refl
