use Rattle.std.proofs.Common.{get_or, []}
use Rattle.restore.proofs.write.write_volume.Goals as goal

pub returns-in-Ok-written-clause-written : goal.returns-in-Ok-written-clause-written
returns-in-Ok-written-clause-written g c = λ reels blocks held found.
    c.in-Ok-written.ensures (get_or reels c.args.volume.now.reel []) blocks (c.in-Ok.ensures.opened reels held found.0.0) found.1 found.0.1
