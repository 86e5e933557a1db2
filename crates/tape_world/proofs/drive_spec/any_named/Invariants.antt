use Rattle.tape_world.proofs.Layers.{◌≡◌, drop, list_any, bytes_eq}
use Rattle.tape_world.proofs.drive_spec.any_named.Given as goal

-- no drive before this one has the name
abbrev pub invariant-loop-drive : goal.invariant-loop-drive
invariant-loop-drive l = list_any (λ d. bytes_eq l.name d.name.now) (drop l.drive-index l.drives) ≡ list_any (λ d. bytes_eq l.name d.name.now) l.drives
