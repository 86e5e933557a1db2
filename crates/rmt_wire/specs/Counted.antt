-- Streams whose failures are counted. Public contracts cite it.
use Rattle.std.specs.Prelude.{ℕ, ◌+◌, ◌-◌, ◌^◌, ◌≤◌, min, max, refl}
use Rattle.std.specs.Coded.{Coded, code_by, coded×, coded_ℕ}

-- a stream, the failures counted so far, and how many reads it still passes on
pub record Counting (T : Type 0) : Type 0 where
  pub inner : T
  pub failures : ℕ
  pub left : ℕ

-- how a `Counting` is stored: as the tuple of its fields
abbrev pub counting_code : {T : Type 0} → Coded T → Coded (Counting T)
counting_code {T} code =
    code_by
    (T × (ℕ × ℕ))
    (coded× code (coded× coded_ℕ coded_ℕ))
    (λ c. (c.inner, (c.failures, c.left)))
    (λ p. record { inner = p.0; failures = p.1.0; left = p.1.1 })
    (λ _. refl)

-- the next count, which stays at the greatest u64
abbrev pub counted : ℕ → ℕ
counted n = min (n + 1) (2 ^ 64 - 1)

-- the count after one more failure, which is never less than before
abbrev pub raised : ℕ → ℕ
raised n = max n (counted n)

-- the count has risen by one or more, or is at its greatest value
abbrev pub HasRisen : ℕ → ℕ → Type 0
HasRisen before now = raised before ≤ now
