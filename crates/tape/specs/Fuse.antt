-- A medium that fails at a chosen call, and what that call leaves. `m` has the promises of the kind
-- of medium. Public contracts cite it.
use Rattle.std.specs.Prelude.{◌≡◌, ◌⊎◌, ℕ, zero, suc, ◌+◌, ◌≤◌, Bool, true, false, if◌then◌else◌, List, ◌++◌, length, take, Option, Some, None, refl}
use Rattle.std.specs.Coded.{Coded, code_by, coded×, coded_ℕ, coded_bool, coded_option}
use Rattle.tape.specs.Failures.{Steps}
use Rattle.tape.specs.Medium.{MediumKind, medium_kind}

-- The view of a `FuseMedium`. `inner` is the inner medium. `to_go` is how many calls come before
-- the next that is due to fail, or `None` if no more call is due. `left` is how many bytes a
-- failing append adds. `once` says whether only one call is made to fail. `failures` counts the
-- calls that failed.
pub record Fused (M : Type 0) : Type 0 where
  pub inner : M
  pub to_go : Option ℕ
  pub left : ℕ
  pub once : Bool
  pub failures : ℕ

-- A `Fused` is encoded as the tuple of its fields.
abbrev pub fused_code : {M : Type 0} → Coded M → Coded (Fused M)
fused_code {M} code =
    code_by
    (M × (Option ℕ × (ℕ × (Bool × ℕ))))
    (coded× code (coded× (coded_option coded_ℕ) (coded× coded_ℕ (coded× coded_bool coded_ℕ))))
    (λ f. (f.inner, (f.to_go, (f.left, (f.once, f.failures)))))
    (λ p. record { inner = p.0; to_go = p.1.0; left = p.1.1.0; once = p.1.1.1.0; failures = p.1.1.1.1 })
    (λ _. refl)

-- Whether the next call is due to fail.
abbrev pub is_due : Option ℕ → Bool
is_due None = false
is_due (Some zero) = true
is_due (Some (suc n)) = false

-- The next call is due to fail.
abbrev pub IsDue : Option ℕ → Type 0
IsDue to_go = is_due to_go ≡ true

-- The next call is not due to fail.
abbrev pub IsNotDue : Option ℕ → Type 0
IsNotDue to_go = is_due to_go ≡ false

-- How many calls come before the next that is due to fail, after one more call.
abbrev pub counted_down : Bool → Option ℕ → Option ℕ
counted_down once None = None
counted_down once (Some zero) = if once then None else Some zero
counted_down once (Some (suc n)) = Some n

-- One more call is counted, and the other settings are unchanged.
abbrev pub CountsDown : {M : Type 0} → Fused M → Fused M → Type 0
CountsDown old new = (new.to_go ≡ counted_down old.once old.to_go) × (new.left ≡ old.left) × (new.once ≡ old.once)

-- Some later call is due to fail.
abbrev pub CanStop : Option ℕ → Type 0
CanStop None = ⊥
CanStop (Some n) = Unit {0}

-- The promises of a medium with a fuse. It holds what the inner medium holds, and can fail if that
-- can, or if a call is due to fail.
abbrev pub fuse_kind : {M : Type 0} → (M → List ℕ → Type 0) → (M → Type 0) → (M → ℕ) → MediumKind (Fused M)
fuse_kind holds can_fail spare =
    medium_kind (λ f bytes. holds f.inner bytes) (λ f. f.failures) (λ f. can_fail f.inner ⊎ CanStop f.to_go) (λ f. spare f.inner)

-- The first of these bytes were appended to the inner medium, and all if it cannot fail and has
-- room.
pub record IsLeft {S : Type 0} (m : MediumKind S) (old : S) (what : List ℕ) (new : S) : Type 0 where
  pub step : Steps m.holds old new (λ x y. (n : ℕ) × (y ≡ x ++ take n what))
  pub exact : (m.can_fail old → ⊥) → length what ≤ m.spare old → Steps m.holds old new (λ x y. y ≡ x ++ what)
  pub quiet : m.can_fail new → m.can_fail old
  pub room : m.spare old ≤ m.spare new + length what

-- If the inner medium cannot fail, it keeps its first `len` bytes.
abbrev pub IsCutWithin : {S : Type 0} → MediumKind S → S → ℕ → S → Type 0
IsCutWithin m old len new = (m.can_fail old → ⊥) → Steps m.holds old new (λ x y. y ≡ take len x)
