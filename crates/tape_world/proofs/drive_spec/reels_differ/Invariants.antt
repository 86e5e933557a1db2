use Rattle.tape_world.proofs.Layers.{◌≡◌, drop, flat_map, are_distinct, reels_of}
use Rattle.tape_world.proofs.drive_spec.reels_differ.Given as goal

-- the reels of the drives before the place differ from all others
abbrev pub invariant-loop-place : goal.invariant-loop-place
invariant-loop-place l = are_distinct (flat_map reels_of (drop l.place l.drives)) ≡ are_distinct (flat_map reels_of l.drives)
