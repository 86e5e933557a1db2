use Rattle.rmtd_args.proofs.Words.{rules}
use Rattle.rmtd_args.proofs.rmtd_line.checked_line.Goals as goal

pub returns : goal.returns
returns c = search rules
