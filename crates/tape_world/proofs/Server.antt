-- Sides by their numbers, and their ends, as the host tells of them and as the world does.
use Rattle.tape_world.proofs.Layers.{common_steps, arith, ◌≡◌, ℕ, zero, suc, List, [], ◌∷◌, Option, None, refl, ap, ◌∙◌, slice_get, slice_index_or, option_and_then, ServerState, side_at, side_of, ended_from, ended, all_ended}
use Rattle.world_host.specs.Servers as host

pub at_place : {S : Type 0} (xs : List (Option S)) (i : ℕ) → slice_index_or xs i None ≡ option_and_then (λ s. s) (slice_get xs i)
at_place [] i = refl
at_place (x ∷ xs) zero = refl
at_place (x ∷ xs) (suc i) = at_place xs i

pub side_found : (h : ServerState) (k : ℕ) → side_at h.sides k ≡ side_of h k
side_found h k = grind (arith, common_steps, at_place)

pub ended_is : (h : ServerState) (k : ℕ) → host.ended h k ≡ ended h k
ended_is h k = ap (ended_from h k) (side_found h k)

pub all_ended_is : (h : ServerState) (n : ℕ) → host.all_ended h n ≡ all_ended h n
all_ended_is h zero = refl
all_ended_is h (suc n) = ended_is (host.all_ended h n) (suc n) ∙ ap (λ g. ended g (suc n)) (all_ended_is h n)
