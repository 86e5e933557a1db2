use Rattle.rdump_net.proofs.Observed.{observes_none}
use Rattle.rdump_net.proofs.Talking.{nothing_said}
use Rattle.rdump_net.proofs.attempt.exchange.Goals as goal

pub returns-in_default : goal.returns-in_default
returns-in_default g c = record { talks = nothing_said; observed = observes_none }
