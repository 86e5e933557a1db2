use Rattle.rmt_server.proofs.TroubledServing.{all_served}
use Rattle.rmt_server.proofs.laws.troubled_serve.Goals as goal

pub returns : goal.returns
returns c = all_served c.lying_troubles.ensures
