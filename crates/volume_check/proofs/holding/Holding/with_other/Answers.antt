use Rattle.volume_check.proofs.Others.{other_more}
use Rattle.volume_check.proofs.holding.Holding.with_other.Goals as goal

pub returns-in_default : goal.returns-in_default
returns-in_default c = λ bytes entries is fits held. other_more c.args.self c.args.len bytes entries c.requires c.in_default.not-Volume is held
