-- Calls of a medium in a row.
use Rattle.tape.proofs.Words.{◌≡◌, ◌≢◌, false, true, ℕ, ◌+◌, ◌<◌, ◌≤◌, List, inl, inr, refl, subst, ◌∙◌, arith, MediumCall, MediumStep, HasFailed, bytes_added, MediumKind, IsMediumCall, AreMediumCalls}

pub run_call : {S : Type 0} {m : MediumKind S} {old new : S} {call : MediumCall} → IsMediumCall m old call new
    → AreMediumCalls m (MediumStep call) (bytes_added call) (HasFailed call) old new
run_call c = record { step = c.step; failed = c.failed; same = c.same; counted = c.counted; able = c.able; quiet = c.quiet; room = c.room }

-- an answer that is no error is none
pub no_error : false ≡ true → ⊥
no_error f = cc

-- nothing is added
pub no_bytes : 0 ≤ 0
no_bytes = omega arith

pub no_bytes_twice : 0 + 0 ≤ 0
no_bytes_twice = omega arith

pub some_bytes : {n : ℕ} → n ≢ 0 → 0 < n
some_bytes {n} some = omega arith

-- what a run does, said otherwise
pub run_as : {S : Type 0} {m : MediumKind S} {old new : S} {first does : List ℕ → List ℕ → Type 0} {less added : ℕ} {fails F : Type 0}
    → AreMediumCalls m first less fails old new → (fails → F) → (F → fails) → less ≤ added
    → ((x y : List ℕ) → m.holds old x → first x y → does x y) → AreMediumCalls m does added F old new
run_as r to from fits weaker = record {
  step = λ x held. let s = r.step x held in (s.0, s.1, weaker x s.0 held s.2);
  failed = λ f. r.failed (from f);
  same = elim r.same [ inl e ↦ inl e | inr f ↦ inr (to f) ];
  counted = r.counted;
  able = λ f. elim (r.able (from f)) [ inl e ↦ inl e | inr l ↦ inr (omega arith) ];
  quiet = r.quiet;
  room = let k = r.room in omega arith;
}

-- no call
pub run_none : {S : Type 0} {m : MediumKind S} {here : S} {does : List ℕ → List ℕ → Type 0} {added : ℕ} {fails : Type 0}
    → (fails → ⊥) → ((x : List ℕ) → m.holds here x → does x x) → AreMediumCalls m does added fails here here
run_none not same = record {
  step = λ x held. (x, held, same x held);
  failed = λ f. absurd (not f);
  same = inl refl;
  counted = omega arith;
  able = λ f. absurd (not f);
  quiet = λ x. x;
  room = omega arith;
}

-- one run and then another
pub run_then : {S : Type 0} {m : MediumKind S} {a b c : S} {first next does : List ℕ → List ℕ → Type 0} {less more added : ℕ} {fails F G : Type 0}
    → AreMediumCalls m first less fails a b → AreMediumCalls m next more F b c → (fails → ⊥) → (F → G) → (G → F) → less + more ≤ added
    → ((x y z : List ℕ) → m.holds a x → first x y → next y z → does x z) → AreMediumCalls m does added G a c
run_then r q not to from fits both = record {
  step = λ x held.
      let s = r.step x held in
      let u = q.step s.0 s.1 in
      (u.0, u.1, both x s.0 u.0 held s.2 u.2);
  failed = λ f.
      let risen = q.failed (from f) in
      let kept = r.counted in
      omega arith;
  same = elim r.same [ inl e ↦ elim q.same [ inl k ↦ inl (k ∙ e) | inr f ↦ inr (to f) ] | inr f ↦ absurd (not f) ];
  counted = let k = r.counted in let l = q.counted in omega arith;
  able = λ f. elim (q.able (from f)) [ inl e ↦ inl (r.quiet e) | inr l ↦ (let k = r.room in inr (omega arith)) ];
  quiet = λ x. r.quiet (q.quiet x);
  room = let k = r.room in let l = q.room in omega arith;
}

-- the bytes stay as they were, and this holds of them
abbrev pub Looks : (List ℕ → Type 0) → List ℕ → List ℕ → Type 0
Looks tells old new = (new ≡ old) × tells old

module _ {S : Type 0} {m : MediumKind S} {F : Type 0} {P Q : List ℕ → Type 0} where
  -- calls that leave the bytes, and what follows from what they found
  pub look : {a b : S} → AreMediumCalls m (Looks P) 0 F a b → ((x : List ℕ) → P x → Q x) → AreMediumCalls m (Looks Q) 0 F a b
  look r tells = run_as r (λ f. f) (λ f. f) no_bytes (λ x y held s. (s.0, tells x s.1))

  -- the same for one run and then another
  pub look_on : {a b c : S} {R : List ℕ → Type 0} → AreMediumCalls m (Looks P) 0 (false ≡ true) a b → AreMediumCalls m (Looks Q) 0 F b c
      → ((x : List ℕ) → P x → Q x → R x) → AreMediumCalls m (Looks R) 0 F a c
  look_on r q tells = run_then r q no_error (λ f. f) (λ f. f) no_bytes_twice (λ x y z held s n. (n.0 ∙ s.0, tells x s.1 (subst Q s.0 n.1)))
