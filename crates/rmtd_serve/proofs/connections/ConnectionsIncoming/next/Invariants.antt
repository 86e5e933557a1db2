use Rattle.std.proofs.Common.{◌+◌}
use Rattle.rmtd_serve.proofs.connections.ConnectionsIncoming.next.Given as goal

abbrev pub decreases-loop-self : goal.decreases-loop-self
decreases-loop-self g l = l.self.left + l.self.tries
