use Rattle.tape_world.proofs.Layers.{◌≡◌, drop, list_any, names_again}
use Rattle.tape_world.proofs.drive_spec.any_shared.Given as goal

-- no name before this one is that of a reel
abbrev pub invariant-loop-name : goal.invariant-loop-name
invariant-loop-name l = list_any (λ n. names_again l.drives n.now) (drop l.name-index l.names) ≡ list_any (λ n. names_again l.drives n.now) l.names
