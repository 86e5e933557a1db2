-- The syncs of a file and its move: which steps were made, and the outcome if it was not moved.
-- Public contracts cite it.
use Rattle.std.specs.Prelude.{◌≡◌, ◌⊎◌, ℕ, Bool, true, false, List, [], ◌∷◌, ◌++◌, Option, Some}
use Rattle.tape.specs.Failures.{Steps}

-- a step of a file, and whether it succeeded
pub data FileStep : Type 0 where
  Sync : (done : Bool) → FileStep
  Move : (done : Bool) → FileStep

-- exactly these steps were made of the file, in this order, if its steps are specified
abbrev pub Makes : {F : Type 0} → (F → List FileStep → Type 0) → F → F → List FileStep → Type 0
Makes told old new steps = Steps told old new (λ before after. after ≡ before ++ steps)

-- Why a file that was truncated to zero length `truncations` times could not be synced. `failed`
-- and `noted` are what is recorded before and after: the number of truncations when a sync failed
-- last. `before` and `after` are the steps of the file. Either a sync had failed since the last
-- truncation, and no step was made. Or the sync failed now, and this is recorded.
abbrev pub IsUnsynced : ℕ → Option ℕ → Option ℕ → List FileStep → List FileStep → Type 0
IsUnsynced truncations failed noted before after =
    ((failed ≡ Some truncations) × (after ≡ before)) ⊎ ((noted ≡ Some truncations) × (after ≡ before ++ Sync false ∷ []))

-- Why the file was left in its stack, and not moved to the bin: it could not be synced, now or
-- since its last truncation, or the move failed after a sync that succeeded.
abbrev pub IsLeft : ℕ → Option ℕ → Option ℕ → List FileStep → List FileStep → Type 0
IsLeft truncations failed noted before after =
    IsUnsynced truncations failed noted before after ⊎ (after ≡ before ++ Sync true ∷ Move false ∷ [])
