use Rattle.std.proofs.Common.{◌+◌}
use Rattle.rmtd_serve.specs.Serving.{ServedInTurn}
use Rattle.rmtd_serve.proofs.listening.serve_connections.Given as goal

abbrev pub invariant-loop-connections : goal.invariant-loop-connections
invariant-loop-connections g l = ServedInTurn l.fn.server l.server

abbrev pub decreases-loop-connections : goal.decreases-loop-connections
decreases-loop-connections g l = l.connections.left + l.connections.tries
