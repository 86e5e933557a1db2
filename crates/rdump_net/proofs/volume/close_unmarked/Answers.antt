use Rattle.rdump_net.proofs.Marks.{closed_unmarked}
use Rattle.rdump_net.proofs.volume.close_unmarked.Goals as goal

pub returns : goal.returns
returns g c = λ goes next replies at unmarked. closed_unmarked c.close.result at unmarked c.close.ensures
