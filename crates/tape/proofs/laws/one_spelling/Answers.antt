use Rattle.tape.proofs.Spelling.{spelling}
use Rattle.tape.proofs.Places.{one_tape}
use Rattle.tape.proofs.laws.one_spelling.Goals as goal

pub returns-clause-entries : goal.returns-clause-entries
returns-clause-entries c = spelling

pub returns-clause-tape : goal.returns-clause-tape
returns-clause-tape c = one_tape
