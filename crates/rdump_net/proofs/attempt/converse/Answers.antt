use Rattle.rdump_net.proofs.Observed.{observes_none, observes_then}
use Rattle.rdump_net.proofs.Talking.{followed, nothing_said}
use Rattle.rdump_net.proofs.attempt.converse.Goals as goal

pub loop-init : goal.loop-init
loop-init g c = record { talks = nothing_said; observed = observes_none }

pub returns-in_default : goal.returns-in_default
returns-in_default g c = record { talks = followed c.loop.invariant.talks c.exchange.ensures.talks; observed = observes_then c.loop.invariant.observed c.exchange.ensures.observed }

pub loop-preserved : goal.loop-preserved
loop-preserved g c = record { talks = followed c.loop.invariant.talks c.exchange.ensures.talks; observed = observes_then c.loop.invariant.observed c.exchange.ensures.observed }
