use Rattle.tape_world.proofs.Layers.{◌≡◌, map, drop, are_distinct}
use Rattle.tape_world.proofs.drive_spec.names_differ.Given as goal

-- the names of the drives before the place differ from all others
abbrev pub invariant-loop-place : goal.invariant-loop-place
invariant-loop-place l = are_distinct (map (λ d. d.name.now) (drop l.place l.drives)) ≡ are_distinct (map (λ d. d.name.now) l.drives)
