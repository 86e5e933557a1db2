use Rattle.std.proofs.Common.{◌-◌, ◌≡◌, ◌≤◌, take}
use Rattle.tape.specs.FileSteps.{AreMediumCalls}
use Rattle.tape.specs.RecordFile.{medium_kind_of}
use Rattle.sha2.specs.Hashers.{Holds256}
use Rattle.volume_check.proofs.medium.hash_bytes.Given as goal

abbrev pub invariant-loop-at : goal.invariant-loop-at
invariant-loop-at g l = record {
  run : AreMediumCalls (medium_kind_of g.M.Medium) (λ old new. (new ≡ old) × Holds256 l.hasher (take l.at old)) 0 ⊥ l.fn.medium l.medium;
  within : l.at ≤ l.fn.len;
}

abbrev pub decreases-loop-at : goal.decreases-loop-at
decreases-loop-at g l = l.len - l.at
