use Rattle.tape_world.proofs.Layers.{◌≡◌, drop, list_any, bytes_eq}
use Rattle.tape_world.proofs.drive_spec.any_is.Given as goal

-- no name before this one is it
abbrev pub invariant-loop-other : goal.invariant-loop-other
invariant-loop-other l = list_any (λ n. bytes_eq l.name n.now) (drop l.other-index l.names) ≡ list_any (λ n. bytes_eq l.name n.now) l.names
