use Rattle.tape_world.proofs.Layers.{IsReached, none, plain_drive_spec, [], sym, subst, map}
use Rattle.tape_world.proofs.world.World.new.Goals as goal

pub invariant_of-result : goal.invariant_of-result
invariant_of-result c = subst IsReached (sym c.in_ok-world_state.ensures) (map plain_drive_spec c.args.drives.now, [], c.requires, none)
