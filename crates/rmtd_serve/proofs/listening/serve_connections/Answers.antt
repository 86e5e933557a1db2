use Rattle.rmtd_serve.specs.Serving.ServedInTurn.{none}
use Rattle.rmtd_serve.proofs.Resting.{in_turn}
use Rattle.rmtd_serve.proofs.listening.serve_connections.Goals as goal

pub loop-connections-init : goal.loop-connections-init
loop-connections-init g c = none

pub loop-connections-preserved-in-Some : goal.loop-connections-preserved-in-Some
loop-connections-preserved-in-Some g c = in_turn c.loop-connections.invariant c.serve_stream.ensures
