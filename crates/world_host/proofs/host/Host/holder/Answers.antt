use Rattle.world_host.proofs.Hosted.{held_once}
use Rattle.world_host.proofs.host.Host.holder.Goals as goal

pub returns-clause-once : goal.returns-clause-once
returns-clause-once c = rw (← c.self.view_is) (held_once c.self.invariant.0)
