use Rattle.volume_check.proofs.Words.{◌-◌, ◌≡◌, ◌^◌, medium_kind_of, AreMediumCalls, IsTalliedUpTo}
use Rattle.volume_check.proofs.check.add_entries.Given as goal

abbrev pub invariant-loop-length : goal.invariant-loop-length
invariant-loop-length g l =
    AreMediumCalls (medium_kind_of g.M.Medium) (λ old new. (new ≡ old) × IsTalliedUpTo old l.at l.tally) 0 ⊥ l.fn.medium l.medium

abbrev pub decreases-loop-length : goal.decreases-loop-length
decreases-loop-length g l = 2 ^ 64 - l.at
