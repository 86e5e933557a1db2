use Rattle.rmt_server.proofs.TroubledServing.{all_ended}
use Rattle.rmt_server.proofs.laws.untroubled_end.Goals as goal

pub returns : goal.returns
returns c = all_ended c.lying_troubles.ensures
