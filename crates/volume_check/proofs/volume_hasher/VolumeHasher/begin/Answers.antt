use Rattle.std.proofs.Common.{◌<◌, [], arith}
use Rattle.volume_check.proofs.volume_hasher.VolumeHasher.begin.Goals as goal

pub returns : goal.returns
returns c payload was known = record {
  all = c.record.ensures [] c.new-all.ensures;
  but_last = λ (some : 0 < 0). absurd (omega arith);
}
