use Rattle.std.proofs.Common.{◌≡◌, drop, flat_map}
use Rattle.drives.specs.Arranging.{slot_named}
use Rattle.drives.proofs.list_drive.find_stacked.Given as goal

-- the reel is looked for on the stacks from this one on
abbrev pub invariant-loop-drive : goal.invariant-loop-drive
invariant-loop-drive l = slot_named l.name (flat_map (λ r. r.stack) (drop l.drive-index l.drives)) ≡ slot_named l.name (flat_map (λ r. r.stack) l.drives)
