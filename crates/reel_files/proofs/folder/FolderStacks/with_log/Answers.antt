use Rattle.std.proofs.Common.{ap, ap₂, length}
use Rattle.std.proofs.lemmas.List.{length-map}
use Rattle.reel_files.specs.Folders.{folder_library}
use Rattle.reel_files.proofs.folder.FolderStacks.with_log.Goals as goal

pub returns-clause-drives : goal.returns-clause-drives
returns-clause-drives g c = ap₂ (λ rows bin. folder_library rows bin c.args.capacity 0) c.in_ok-drives.ensures c.in_ok-bin.ensures.ok

pub returns-clause-count : goal.returns-clause-count
returns-clause-count g c = simp length-map at (ap length c.in_ok-drives.ensures)
