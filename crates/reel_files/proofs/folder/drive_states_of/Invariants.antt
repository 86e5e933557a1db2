use Rattle.std.proofs.Common.{◌≡◌, false, map, take}
use Rattle.reel_files.specs.Folders.{folder_row}
use Rattle.reel_files.proofs.folder.drive_states_of.Given as goal

abbrev pub invariant-loop-drive : goal.invariant-loop-drive
invariant-loop-drive l = l.states.items ≡ map (λ d. folder_row d.name.now d.folder.now false) (take l.drive-index l.drives)
