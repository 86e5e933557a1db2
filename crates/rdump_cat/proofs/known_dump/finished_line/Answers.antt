use Rattle.std.proofs.Common.{refl}
use Rattle.rdump_cat.proofs.known_dump.finished_line.Goals as goal

pub returns-in-None-clause-refused : goal.returns-in-None-clause-refused
returns-in-None-clause-refused c = (c.in-Some.run', c.in-Some.ensures, c.in-None.ensures.none refl)
