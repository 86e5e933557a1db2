use Rattle.std.proofs.Common.{arith}
use Rattle.std.proofs.lemmas.Grind.{common_steps}
use Rattle.rmtd_serve.proofs.folders.folder_stacks.Goals as goal

pub returns-clause-named : goal.returns-clause-named
returns-clause-named g c = grind (arith, common_steps)
