use Rattle.tape_world.proofs.Layers.{◌≡◌, map, drop, are_distinct}
use Rattle.tape_world.proofs.drive_spec.all_differ.Given as goal

-- the names before the place differ from all others
abbrev pub invariant-loop-place : goal.invariant-loop-place
invariant-loop-place l = are_distinct (map (λ n. n.now) (drop l.place l.names)) ≡ are_distinct (map (λ n. n.now) l.names)
