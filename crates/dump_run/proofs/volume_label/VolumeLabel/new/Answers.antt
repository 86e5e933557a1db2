use Rattle.dump_run.proofs.Words.{arith}
use Rattle.dump_run.proofs.volume_label.VolumeLabel.new.Goals as goal

pub from_parts-requires : goal.from_parts-requires
from_parts-requires c = rw c.from_parts-id.ensures record {
  name = rw (c.as_bytes-2.ensures.value, ← c.as_bytes.ensures.value) (c.is_name.ensures.name.0 c.if-not-is_name.false);
  level = omega arith;
  date = omega arith;
  since = omega arith;
  volume = omega arith;
  first = omega arith;
}
