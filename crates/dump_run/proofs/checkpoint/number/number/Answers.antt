use Rattle.std.proofs.Common.{rules}
use Rattle.dump_run.proofs.checkpoint.number.number.Goals as goal

pub returns-in-Some : goal.returns-in-Some
returns-in-Some c = ((c.if-least-n.true, c.if-n-most.true), search rules)
