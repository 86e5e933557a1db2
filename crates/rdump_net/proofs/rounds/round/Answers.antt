use Rattle.rdump_net.proofs.Words.{refl}
use Rattle.rdump_net.proofs.Printed.{replied}
use Rattle.rdump_net.proofs.Observed.{observes_none, observes_same}
use Rattle.rdump_net.proofs.rounds.round.Goals as goal

pub returns-in-Asking-clause-printed : goal.returns-in-Asking-clause-printed
returns-in-Asking-clause-printed g c = replied g.W.Write.contents c.args.client.now.at.counts c.ask.new.client.at c.args.out.now c.ask.result c.ask.ensures.same c.ask.ensures.ends

pub returns-in-Asking-clause-told : goal.returns-in-Asking-clause-told
returns-in-Asking-clause-told g c = observes_same c.args.client.now.at.counts c.ask.new.client.at.counts c.ask.ensures.same c.ask.ensures.observed

pub returns-in-Finished-clause-told : goal.returns-in-Finished-clause-told
returns-in-Finished-clause-told g c = observes_same c.args.client.now.at.counts c.args.client.now.at.counts refl observes_none
