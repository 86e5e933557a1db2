use Rattle.tape_world.proofs.Layers.{◌≡◌, ◌+◌, drop, position_or_len, bytes_eq}
use Rattle.tape_world.proofs.world_state.serving.place_of.Given as goal

-- the name is none of those before this place
abbrev pub invariant-loop-place : goal.invariant-loop-place
invariant-loop-place l =
    l.place + position_or_len (λ n. bytes_eq l.name n.items) (drop l.place l.names) ≡ position_or_len (λ n. bytes_eq l.name n.items) l.names
