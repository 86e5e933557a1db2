use Rattle.volume_check.proofs.Words.{◌-◌, ◌≡◌, ◌≤◌, medium_kind_of, AreMediumCalls}
use Rattle.volume_check.proofs.check.pass_bytes.Given as goal

abbrev pub invariant-loop-passed : goal.invariant-loop-passed
invariant-loop-passed g l = record {
  run : AreMediumCalls (medium_kind_of g.M.Medium) (λ old new. new ≡ old) 0 ⊥ l.fn.medium l.medium;
  within : l.passed ≤ l.fn.length;
}

abbrev pub decreases-loop-passed : goal.decreases-loop-passed
decreases-loop-passed g l = l.length - l.passed
