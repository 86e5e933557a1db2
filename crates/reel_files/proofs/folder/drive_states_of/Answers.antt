use Rattle.std.proofs.Common.{arith}
use Rattle.std.proofs.lemmas.Grind.{common_steps}
use Rattle.reel_files.proofs.folder.drive_states_of.Goals as goal

pub returns : goal.returns
returns c = grind (arith, common_steps)
