use Rattle.world_host.proofs.Hosted.{unlatched}
use Rattle.world_host.proofs.host.Host.can_arrange.Goals as goal

pub returns-clause-may : goal.returns-clause-may
returns-clause-may c = rw (← c.self.view_is) c.can_arrange.ensures.told

pub returns-clause-free : goal.returns-clause-free
returns-clause-free c = rw (← c.self.view_is) (unlatched c.self.invariant.0 c.args.drive)
