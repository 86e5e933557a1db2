use Rattle.tape_world.proofs.Layers.{◌≡◌, drop, list_any, bytes_eq}
use Rattle.tape_world.proofs.drive_spec.any_has.Given as goal

-- no drive before this one has the reel
abbrev pub invariant-loop-drive : goal.invariant-loop-drive
invariant-loop-drive l =
    list_any (λ d. list_any (λ n. bytes_eq l.name n.now) d.reels.now) (drop l.drive-index l.drives) ≡ list_any
    (λ d. list_any (λ n. bytes_eq l.name n.now) d.reels.now) l.drives
