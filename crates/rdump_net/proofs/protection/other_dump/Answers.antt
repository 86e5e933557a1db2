use Rattle.rdump_net.proofs.Words.{arith, rules}
use Rattle.rdump_net.proofs.protection.other_dump.Goals as goal

pub returns-then-date : goal.returns-then-date
returns-then-date c = (search rules, omega arith, omega arith)
