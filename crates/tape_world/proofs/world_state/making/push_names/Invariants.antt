use Rattle.tape_world.proofs.Layers.{◌≡◌, ◌++◌, map, take}
use Rattle.tape_world.proofs.world_state.making.push_names.Given as goal

abbrev pub invariant-loop-name : goal.invariant-loop-name
invariant-loop-name l = map (λ n. n.items) l.names.items ≡ map (λ n. n.items) l.initial.names.items ++ map (λ n. n.now) (take l.name-index l.more)
