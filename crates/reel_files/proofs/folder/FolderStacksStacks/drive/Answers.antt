use Rattle.std.proofs.Common.{rules}
use Rattle.reel_files.proofs.folder.FolderStacksStacks.drive.Goals as goal

pub returns-clause-found : goal.returns-clause-found
returns-clause-found g c = search rules
