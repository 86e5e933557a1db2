use Rattle.drives.proofs.Held.{read_is}
use Rattle.drives.proofs.local.LocalHoldsHolds.holder.Goals as goal

pub returns-clause-known : goal.returns-clause-known
returns-clause-known c = (read_is c.self.view_is c.self.invariant c.requires.seat c.requires.drive c.index-found.ensures).known

pub returns-clause-mine : goal.returns-clause-mine
returns-clause-mine c = (read_is c.self.view_is c.self.invariant c.requires.seat c.requires.drive c.index-found.ensures).mine

pub returns-clause-found : goal.returns-clause-found
returns-clause-found c = (read_is c.self.view_is c.self.invariant c.requires.seat c.requires.drive c.index-found.ensures).found
