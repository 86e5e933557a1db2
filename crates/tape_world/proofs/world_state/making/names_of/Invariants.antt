use Rattle.tape_world.proofs.Layers.{◌≡◌, map, take, flat_map, reels_of}
use Rattle.tape_world.proofs.world_state.making.names_of.Given as goal

abbrev pub invariant-loop-drive : goal.invariant-loop-drive
invariant-loop-drive l = map (λ n. n.items) l.names.items ≡ flat_map reels_of (take l.drive-index l.drives)
