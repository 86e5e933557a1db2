use Rattle.std.proofs.Common.{rules}
use Rattle.file_medium.proofs.file_medium.FileMedium.count.Goals as goal

pub returns-in-Err-clause-failed : goal.returns-in-Err-clause-failed
returns-in-Err-clause-failed g c = search rules
