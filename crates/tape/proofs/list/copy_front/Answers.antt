use Rattle.tape.proofs.Words.{take_all, take_min, arith, nil_from_length}
use Rattle.std.proofs.lemmas.List.{drop_all}
use Rattle.tape.proofs.list.copy_front.Goals as goal

pub returns : goal.returns
returns c = grind (arith, take_min, take_all, drop_all, nil_from_length)
