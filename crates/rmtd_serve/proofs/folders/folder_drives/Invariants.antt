use Rattle.std.proofs.Common.{◌≡◌, false, map, take}
use Rattle.reel_files.specs.Folders.{folder_row}
use Rattle.rmtd_args.specs.Drive.{plain_drive}
use Rattle.rmtd_serve.proofs.folders.folder_drives.Given as goal

-- the drives of the words before the place
abbrev pub invariant-loop-argument : goal.invariant-loop-argument
invariant-loop-argument l = map (λ d. folder_row d.name.now d.folder.now false) l.drives.items
    ≡ map (λ d. folder_row d.device d.folder false) (map plain_drive (take l.argument-index l.arguments))
