use Rattle.std.proofs.Common.{arith}
use Rattle.std.proofs.lemmas.Grind.{common_steps}
use Rattle.reel_files.proofs.folder.FolderStacks.take_off.Goals as goal

pub returns-in-Ok-Done : goal.returns-in-Ok-Done
returns-in-Ok-Done g c = grind (arith, common_steps)

pub returns-in-Ok-NameTaken : goal.returns-in-Ok-NameTaken
returns-in-Ok-NameTaken g c = grind (arith, common_steps)
