use Rattle.std.proofs.Common.{ℕ, arith}
use Rattle.drives.proofs.Names.{get_or_default}
use Rattle.drives.proofs.local.LocalHolds.number_at.Goals as goal

pub returns : goal.returns
returns c = (c.requires, grind (arith, c.self.view_is, λ (n : ℕ). get_or_default c.args.self.now.numbers c.args.drive n 0 c.requires))
