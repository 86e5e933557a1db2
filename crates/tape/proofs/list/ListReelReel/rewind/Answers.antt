use Rattle.tape.proofs.Words.{refl}
use Rattle.tape.proofs.Held.{seen}
use Rattle.tape.proofs.list.ListReelReel.rewind.Goals as goal

pub invariant_of-self : goal.invariant_of-self
invariant_of-self c = (seen c.self.invariant c.rewind.ensures refl).0

pub returns : goal.returns
returns c = rw (← c.self.view_is) (let s = seen c.self.invariant c.rewind.ensures refl in record { call = s.1; step = s.2 })
