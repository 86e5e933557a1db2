use Rattle.std.proofs.Common.{arith}
use Rattle.rdump_args.proofs.mt_line.op_of.Goals as goal

pub returns-in-nop : goal.returns-in-nop
returns-in-nop c = omega arith
