use Rattle.rmt_wire.proofs.WriteLines.{dropped_exactly}
use Rattle.rmt_wire.proofs.laws.dropped_writes.Goals as goal

pub returns : goal.returns
returns c = dropped_exactly
