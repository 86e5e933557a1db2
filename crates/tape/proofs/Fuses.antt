-- What a stopped append leaves, part after part.
use Rattle.tape.proofs.Words.{Option, if◌then◌else◌, ◌≡◌, ◌⊎◌, ℕ, ◌-◌, List, ◌++◌, length, take, min, Bool, Result, Ok, Err, IsErr, OnOk, true, false, inl, inr, refl, sym, ap, ◌∙◌, append-nil, arith, take-append-add, take-length, take-append-le, take_min, is_err, MediumKind, IsMediumCall, Cut, raised, Fused, CanStop, IsLeft, counted_down, fuse_kind, is_due, MediumFailed}
use Rattle.tape.proofs.Appends.{Appends}

-- what appends in a row leave
pub left_by : {S : Type 0} {m : MediumKind S} {old new : S} {bytes : List ℕ} (r : Result Unit MediumFailed) → Appends m bytes r old new
    → IsLeft m old bytes new
left_by {bytes = bytes} (Ok u) run = record {
  step = λ x held. let s = run.step x held in (s.0, s.1, (length bytes, s.2 ∙ ap (λ l. x ++ l) (sym (take-length bytes))));
  exact = λ sound fits. run.step;
  quiet = run.quiet;
  room = run.room;
}
left_by (Err e) run = record {
  step = run.step;
  exact = λ sound fits. absurd (elim (run.able refl) [ inl can ↦ sound can | inr short ↦ omega arith ]);
  quiet = run.quiet;
  room = run.room;
}

-- the first bytes of two lists, joined
first_of_two : (n : ℕ) (x y : List ℕ) → take n (x ++ y) ≡ take (min (length x) n) x ++ take (n - min (length x) n) y
first_of_two n x y =
    grind (arith, take-append-le n x y, take-append-add x y (n - length x), append-nil (take n x), take-length x)

-- the first bytes of a frame, bytes and a frame
pub parts : (n : ℕ) (f b : List ℕ) → take n (f ++ (b ++ f))
    ≡ take (min (length f) n) f ++ (take (min (length b) (n - min (length f) n)) b
    ++ take (min (length f) (n - min (length f) n - min (length b) (n - min (length f) n))) f)
parts n f b =
    let i = min (length f) n in
    let j = min (length b) (n - i) in
    let last : take (n - i - j) f ≡ take (min (length f) (n - i - j)) f
    = sym (take_min (n - i - j) f) ∙ ap (λ k. take k f) (omega arith) in
    first_of_two n f (b ++ f) ∙ ap (λ l. take i f ++ l) (first_of_two (n - i) b f) ∙ ap (λ l. take i f ++ (take j b ++ l)) last

-- a cut that is stopped, and not made
pub stopped_cut : {M : Type 0} (holds : M → List ℕ → Type 0) (can_fail : M → Type 0) (spare : M → ℕ) (old new : Fused M) (len : ℕ) (e : MediumFailed)
    (to_go : Option ℕ) → old.to_go ≡ to_go → is_due to_go ≡ true
    → new ≡ record old { to_go = counted_down old.once to_go; failures = if is_due to_go then raised old.failures else old.failures }
    → IsMediumCall (fuse_kind holds can_fail spare) old (Cut len (Err e)) new
stopped_cut holds can_fail spare old new len e to_go at blown is =
    let inner : new.inner ≡ old.inner = ap (λ f. f.inner) is in
    let armed : CanStop old.to_go = grind arith in
    record {
      step = λ x held. (x, rw inner held, inl refl);
      kept = λ reads. absurd reads;
      can = tt;
      failed = λ f. grind arith;
      same = inr refl;
      counted = grind arith;
      able = λ f. inl (inr armed);
      quiet = λ can. elim can [ inl c ↦ inl (rw inner at c) | inr a ↦ inr armed ];
      room = omega (arith, ap spare inner);
    }

-- A call that is counted and passed on: `seen` is the medium then, and `new` is the medium after it.
module _ {M T : Type 0} {r s : Result T MediumFailed} {seen mid new : Fused M} {i j : M} {g h : Option ℕ} {k l : ℕ} {o p : Bool}
    (seen_is : seen ≡ mid) (same : s ≡ r) where
  -- it counts one failure where it fails, and none else
  pub passed_count : (count : ℕ) {due b : Bool} → b ≡ due → b ≡ false
      → mid ≡ record { inner = i; to_go = g; left = k; once = o; failures = if due then raised count else count }
      → new ≡ record { inner = j; to_go = h; left = l; once = p; failures = if is_err r then raised seen.failures else seen.failures }
      → new.failures ≡ (if is_err s then raised count else count)
  passed_count count answer idle first next =
      rw same (rw (rw (sym answer ∙ idle) at (ap (λ f. f.failures) (seen_is ∙ first))) at (ap (λ f. f.failures) next))

  -- and where it goes well, it leaves the count of the medium within
  pub passed_well : (within : M → ℕ) {f e : ℕ} → mid ≡ record { inner = i; to_go = g; left = k; once = o; failures = e }
      → new ≡ record { inner = j; to_go = h; left = l; once = p; failures = f }
      → (within j ≡ within seen.inner) ⊎ IsErr r → OnOk s (within new.inner ≡ within i)
  passed_well within first next w =
      rw same (kept r (elim w [ inl e ↦ inl (ap (λ f. within f.inner) next ∙ e ∙ ap (λ f. within f.inner) (seen_is ∙ first)) | inr failed ↦ inr failed ]))
    where
      kept : (x : Result T MediumFailed) {P : Type 0} → P ⊎ IsErr x → OnOk x P
      kept (Ok u) w = elim w [ inl holds ↦ holds | inr failed ↦ absurd cc ]
      kept (Err e) w = tt
