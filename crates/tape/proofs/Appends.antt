-- Appends in a row.
use Rattle.tape.proofs.Words.{◌≡◌, ℕ, ◌+◌, ◌≤◌, min, List, ◌++◌, length, take, Result, IsErr, Ok, Err, true, false, is_err, refl, sym, ap, ◌∙◌, append_assoc, length-append, arith, take_min, take-append-le, take-append-add, MediumKind, MediumStep, IsMediumCall, Append, AreMediumCalls, MediumFailed}
use Rattle.tape.proofs.MediumRuns.{run_call, run_as, run_then}

-- an append after another
pub append_then : (x y : List ℕ) (r : Result Unit MediumFailed) (a b d : List ℕ) → b ≡ a ++ x → MediumStep (Append y r) b d
    → MediumStep (Append (x ++ y) r) a d
append_then x y (Ok v) a b d first next = next ∙ ap (λ l. l ++ y) first ∙ append_assoc a x y
append_then x y (Err e) a b d first next =
    let last = sym (take-append-add x y next.0) in
    (length x + next.0, next.1 ∙ ap (λ l. l ++ take next.0 y) first ∙ append_assoc a x (take next.0 y) ∙ ap (λ l. a ++ l) last)

-- a failed append, where more was to follow
pub append_short : (x y : List ℕ) (e d : MediumFailed) (a b : List ℕ) → MediumStep (Append x (Err e)) a b → MediumStep (Append (x ++ y) (Err d)) a b
append_short x y e d a b step =
    let least : min step.0 (length x) ≤ length x = omega arith in
    (min step.0 (length x), step.1 ∙ ap (λ l. a ++ l) (sym (take_min step.0 x) ∙ sym (take-append-le (min step.0 (length x)) x y least)))

-- appends in a row, as one
abbrev pub Appends : {S : Type 0} → MediumKind S → List ℕ → Result Unit MediumFailed → S → S → Type 0
Appends m bytes r old new = AreMediumCalls m (MediumStep (Append bytes r)) (length bytes) (IsErr r) old new

module _ {S : Type 0} {m : MediumKind S} where
  -- appends in a row are one append of all their bytes
  pub append_call : {old new : S} {bytes : List ℕ} {r : Result Unit MediumFailed} → Appends m bytes r old new
      → IsMediumCall m old (Append bytes r) new
  append_call run = record {
    step = run.step;
    kept = λ reads. absurd reads;
    can = tt;
    failed = run.failed;
    same = run.same;
    counted = run.counted;
    able = run.able;
    quiet = run.quiet;
    room = run.room;
  }

  -- an append that went well, and others after it
  pub appends_on : {a b d : S} {x : List ℕ} (y : List ℕ) (s r : Result Unit MediumFailed) → is_err s ≡ false → IsMediumCall m a (Append x s) b
      → Appends m y r b d → Appends m (x ++ y) r a d
  appends_on y (Err e) r well c run = absurd cc
  appends_on {x = x} y (Ok u) r well c run =
      run_then (run_call c) run (λ f. cc) (λ f. f) (λ f. f) (omega (arith, length-append x y))
      (λ a b d held first next. append_then x y r a b d first next)

  -- an append that failed, which is the last
  pub appends_end : {a b : S} {x : List ℕ} (y : List ℕ) (s : Result Unit MediumFailed) (d : MediumFailed) → is_err s ≡ true
      → IsMediumCall m a (Append x s) b
      → Appends m (x ++ y) (Err d) a b
  appends_end y (Ok u) d failed c = absurd cc
  appends_end {x = x} y (Err e) d failed c =
      run_as (run_call c) (λ f. refl) (λ f. refl) (omega (arith, length-append x y)) (λ a b held step. append_short x y e d a b step)
