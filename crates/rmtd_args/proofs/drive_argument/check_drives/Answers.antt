use Rattle.rmtd_args.proofs.Words.{arith, common_steps}
use Rattle.rmtd_args.proofs.Places.{length_said}
use Rattle.rmtd_args.proofs.drive_argument.check_drives.Goals as goal

pub returns-in-None : goal.returns-in-None
returns-in-None c = record {
  each = c.in_default-2.ensures;
  differ = c.in-None.ensures;
  few = omega (arith, length_said c.args.arguments.now);
  has_bin = (let size = length_said c.args.arguments.now in grind (arith, common_steps));
}
