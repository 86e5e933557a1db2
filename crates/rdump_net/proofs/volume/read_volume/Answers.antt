use Rattle.rdump_net.proofs.Words.{refl, rules}
use Rattle.rdump_net.proofs.volume.read_volume.Goals as goal

pub returns-in-Err : goal.returns-in-Err
returns-in-Err g c = (c.copy_out.result, rw c.in-Err.is refl, search rules)
