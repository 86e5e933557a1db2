use Rattle.std.proofs.Common.{refl, arith}
use Rattle.dumpdates.proofs.entry.as_name.Goals as goal

pub returns-clause-given : goal.returns-clause-given
returns-clause-given c = (λ some. c.if-not-is_name.ensures.name.0 refl, λ name. grind (arith, c.is_name.ensures.text name))

pub returns-clause-value : goal.returns-clause-value
returns-clause-value c = grind arith
