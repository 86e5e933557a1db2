use Rattle.std.proofs.Common.{rules}
use Rattle.rdump_cat.proofs.known_parts.parts_of.Goals as goal

pub returns-in-Some-clause-parts : goal.returns-in-Some-clause-parts
returns-in-Some-clause-parts c = (c.in-Some.run', c.in-Some.ensures, search rules)
