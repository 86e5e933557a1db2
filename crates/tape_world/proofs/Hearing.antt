-- What the client hears, and what of a world that leaves.
use Rattle.tape_world.proofs.Layers.{common_steps, arith, ◌≡◌, ◌⊎◌, List, [], ◌∷◌, ◌++◌, length, drop, Option, Some, sym, subst, ◌∙◌, ℕ, IsTrue, slice_get, same_Some, Standing, FedAt, VolumeCount, Progress, is_in_attempt, RealCaller, is_over, IsAttempting, option_to_list, not, heard_as, drop_front, numbered_last, slice_get_past}

-- a client that heard something in an attempt: of the same run, with one count more at most, and still in the attempt unless that
-- is over
pub record HasMoved (old new : Standing) (progress : Progress) : Type 0 where
  pub run : new.run ≡ old.run
  pub counts : (new.counts ≡ old.counts) ⊎ ((c : VolumeCount) × (new.counts ≡ old.counts ++ c ∷ []))
  pub stage : is_in_attempt new.stage ≡ not (is_over progress)

pub fed_moves : (old new : Standing) (bytes piece : List ℕ) (progress : Progress) → IsTrue (is_in_attempt old.stage)
    → FedAt old.stage old bytes piece progress new → HasMoved old new progress
fed_moves old new bytes piece progress inside fed = grind (arith, common_steps, inside, heard_as)

-- the count that is new, where there is one
pub counted_new : (old new : Standing) (progress : Progress) (count : Option VolumeCount) → HasMoved old new progress
    → count ≡ slice_get new.counts (length old.counts) → option_to_list count ≡ drop (length old.counts) new.counts
counted_new old new progress count moved is = grind (arith, common_steps, numbered_last old.counts, drop_front old.counts, slice_get_past old.counts)

-- the client that is there is in an attempt
pub inside : (o : Option RealCaller) (x : RealCaller) → o ≡ Some x → IsAttempting o → IsTrue (is_in_attempt x.client.at.stage)
inside o x is (y, at, within) = subst (λ (z : RealCaller). IsTrue (is_in_attempt z.client.at.stage)) (same_Some y x (sym at ∙ is)) within
