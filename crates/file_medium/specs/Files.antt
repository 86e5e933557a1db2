-- A file of the operating system as a medium. Public contracts cite it.
use Rattle.std.specs.Prelude.{ℕ, Bool}
use Rattle.tape.specs.Medium.{MediumKind, medium_kind}

-- The view of a file, which has nothing of its bytes. `failures` counts the calls that failed.
-- `truncations` counts the cuts to length 0 that succeeded. `written` says whether an append or a
-- cut was called, even one that failed.
pub record FileCount : Type 0 where
  pub failures : ℕ
  pub truncations : ℕ
  pub written : Bool

-- The bytes of a file are unknown, and any call of it can fail.
abbrev pub file_kind : MediumKind FileCount
file_kind = medium_kind (λ _ _. ⊥) (λ m. m.failures) (λ _. Unit {0}) (λ _. 0)
