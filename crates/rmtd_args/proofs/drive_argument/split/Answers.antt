use Rattle.std.proofs.lemmas.List.{take_all, drop_all}
use Rattle.std.proofs.lemmas.Str.Pattern.{split_once_first}
use Rattle.rmtd_args.proofs.Words.{arith}
use Rattle.rmtd_args.proofs.drive_argument.split.Goals as goal

pub returns : goal.returns
returns c = grind (arith, split_once_first, take_all, drop_all)
