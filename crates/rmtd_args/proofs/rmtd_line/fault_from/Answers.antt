use Rattle.rmtd_args.proofs.Words.{rules}
use Rattle.rmtd_args.proofs.rmtd_line.fault_from.Goals as goal

pub returns-in-OutOfMemory : goal.returns-in-OutOfMemory
returns-in-OutOfMemory c = search rules
