use Rattle.tape.proofs.Words.{◌≡◌, ◌≤◌, ◌-◌, ◌++◌, replicate, List, ℕ, medium_kind_of, AreMediumCalls}
use Rattle.tape.proofs.file_reel.image.append_zeros.Given as goal

abbrev pub invariant-loop-done : goal.invariant-loop-done
invariant-loop-done g l = record {
  run : AreMediumCalls (medium_kind_of g.M.Medium)
      (λ (old new : List ℕ). new ≡ old ++ replicate l.done 0) l.done ⊥ l.fn.medium l.medium;
  within : l.done ≤ l.count;
}

abbrev pub decreases-loop-done : goal.decreases-loop-done
decreases-loop-done g l = l.count - l.done
