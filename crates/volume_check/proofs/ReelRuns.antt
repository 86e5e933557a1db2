-- Calls of a medium in a row that change nothing.
use Rattle.volume_check.proofs.Words.{◌≡◌, ℕ, List, ◌∙◌, subst, AreMediumCalls, run_then, no_bytes_twice}
use Rattle.tape.specs.Medium.{MediumKind}

-- one after the other, if each of them determines something of the bytes
pub look_then : {S : Type 0} {m : MediumKind S} {a b c : S} {P Q R : List ℕ → Type 0} {F G : Type 0}
    → AreMediumCalls m (λ x y. (y ≡ x) × P x) 0 ⊥ a b → AreMediumCalls m (λ x y. (y ≡ x) × Q x) 0 F b c → (F → G) → (G → F)
    → ((x : List ℕ) → P x → Q x → R x) → AreMediumCalls m (λ x y. (y ≡ x) × R x) 0 G a c
look_then {Q = Q} r q to from both =
    run_then r q (λ f. f) to from no_bytes_twice (λ x y z held first next. (next.0 ∙ first.0, both x first.1 (subst Q first.0 next.1)))
