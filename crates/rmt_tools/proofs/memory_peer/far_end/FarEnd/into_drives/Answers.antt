use Rattle.std.proofs.Common.{rules}
use Rattle.rmt_tools.proofs.memory_peer.far_end.FarEnd.into_drives.Goals as goal

pub returns-clause-apart : goal.returns-clause-apart
returns-clause-apart c = search rules
