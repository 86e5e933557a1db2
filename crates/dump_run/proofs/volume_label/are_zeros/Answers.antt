use Rattle.dump_run.proofs.Words.{arith}
use Rattle.std.proofs.lemmas.Grind.{elements}
use Rattle.dump_run.proofs.volume_label.are_zeros.Goals as goal

pub returns : goal.returns
returns c = (λ yes. grind (arith, elements), λ its. grind (arith, elements))
