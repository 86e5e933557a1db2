use Rattle.dumpdates.proofs.Terms.{arith, append_assoc, decimal_digit, nat_tests}
use Rattle.dumpdates.proofs.ctime.push_day.Goals as goal

pub returns-then-day-lt10-clause-text : goal.returns-then-day-lt10-clause-text
returns-then-day-lt10-clause-text c = grind (arith, nat_tests, append_assoc, decimal_digit c.args.day)
