use Rattle.std.proofs.Common.{rules}
use Rattle.file_medium.proofs.file_medium.FileMedium.new.Goals as goal

pub returns : goal.returns
returns c = search rules
