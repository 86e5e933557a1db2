use Rattle.dump_client.proofs.Attempt.{arith}
use Rattle.dump_client.proofs.Checkpoint.{covers_at, covers_up_to}
use Rattle.dump_client.proofs.count.covers.Goals as goal

pub returns-then-not-is_empty : goal.returns-then-not-is_empty
returns-then-not-is_empty c = grind (arith, covers_at c.args.run.now c.args.counts.now c.requires.volumes, covers_up_to c.args.run.now c.args.counts.now)
