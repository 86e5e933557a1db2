use Rattle.tape.proofs.Words.{refl}
use Rattle.tape.proofs.Held.{seen}
use Rattle.tape.proofs.list.ListReelReel.read.Goals as goal

pub invariant_of-self : goal.invariant_of-self
invariant_of-self c = (seen c.self.invariant c.read.ensures.call refl).0

pub returns-clause-call : goal.returns-clause-call
returns-clause-call c = rw (← c.self.view_is) (seen c.self.invariant c.read.ensures.call refl).1

pub returns-clause-step : goal.returns-clause-step
returns-clause-step c = rw (← c.self.view_is) (seen c.self.invariant c.read.ensures.call refl).2
