use Rattle.std.proofs.Common.{rules}
use Rattle.file_medium.proofs.file_medium.fill.Goals as goal

pub loop-preserved : goal.loop-preserved
loop-preserved c = search rules
