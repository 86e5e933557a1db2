-- The steps of a volume and the replies that they want, one after the other.
use Rattle.dump_client.proofs.Attempt.{◌≡◌, ◌⊎◌, inl, ℕ, zero, suc, ◌+◌, ◌-◌, ◌<◌, ◌≤◌, Bool, true, false, if◌then◌else◌, List, [], ◌∷◌, ◌++◌, map, take, refl, sym, ◌∙◌, ap, arith, append_assoc, nat_tests, append-nil, map-append, IsCount, block_steps, refused_step, last_steps, first_steps, steps_of}
use Rattle.dump_client.proofs.Attempt.{after_step, outcome, block_or_mark, blocks_from, steps_to, steps_before, EndsAt, Received, PlainRun, VolumeCount, Wish, Number, NoRoom, Anything, Step, Open, Operation, Look, Label, Block, Close, Rewind, RewindAgain, Mark, Unload, Outcome, GoesOn, Fails}
use Rattle.dump_client.proofs.Attempt.{Counted, Ended}
use Rattle.dump_client.proofs.Outcomes.{NotClose, wish_of, Hears, led}

-- a volume can begin at this block, and end before that one
abbrev pub CanBegin : PlainRun → ℕ → Type 0
CanBegin run first = (first < run.blocks) ⊎ ((first ≡ 0) × (run.blocks ≡ 0))

abbrev pub CanEnd : PlainRun → ℕ → ℕ → Type 0
CanEnd run first end = (first ≤ end) × IsCount run first (end - first)

-- the step is one of the volume that is not yet counted
abbrev pub IsWithin : PlainRun → ℕ → Step → Type 0
IsWithin run first (Block number) = (first ≤ number) × (number < run.blocks)
IsWithin run first (Operation (Mark end)) = CanEnd run first end
IsWithin run first (Operation (Unload end)) = CanEnd run first end
IsWithin run first Close = ⊥
IsWithin run first step = Unit {0}

pub within_not_close : (run : PlainRun) (first : ℕ) (step : Step) → IsWithin run first step → NotClose step
within_not_close run first step h = grind arith

-- what is answered before a block, before a mark, and before a step
abbrev pub before_block : PlainRun → ℕ → ℕ → List (Step × Wish)
before_block run first number = first_steps ++ block_steps run first (number - first)

abbrev pub before_mark : PlainRun → ℕ → ℕ → List (Step × Wish)
before_mark run first end = before_block run first end ++ refused_step run end

abbrev pub before : PlainRun → ℕ → ℕ → Step → List (Step × Wish)
before run first next Open = []
before run first next (Operation Rewind) = take 1 first_steps
before run first next Look = take 2 first_steps
before run first next (Operation RewindAgain) = take 3 first_steps
before run first next Label = take 4 first_steps
before run first next (Block number) = before_block run first number
before run first next (Operation (Mark end)) = before_mark run first end
before run first next (Operation (Unload end)) = before_mark run first end ++ (Operation (Mark end), Number 1) ∷ []
before run first next Close = before_mark run first next ++ (Operation (Mark next), Number 1) ∷ (Operation (Unload next), Number 1) ∷ []

-- the same without what is wanted
plain_blocks : (run : PlainRun) (first count : ℕ) → map (λ s. s.0) (block_steps run first count) ≡ blocks_from first count
plain_blocks run first zero = refl
plain_blocks run first (suc count) = ap (λ l. Block first ∷ l) (plain_blocks run (suc first) count)

plain_refused : (next : ℕ) (left : Bool)
    → map (λ (s : Step × Wish). s.0) (if left then (Block next, NoRoom) ∷ [] else []) ≡ (if left then Block next ∷ [] else [])
plain_refused next left = grind arith

plain_after : (run : PlainRun) (first end : ℕ) (rest : List (Step × Wish))
    → map (λ s. s.0) (before_mark run first end ++ rest) ≡ steps_to run first end ++ map (λ s. s.0) rest
plain_after run first end rest =
    let mark : map (λ s. s.0) (before_mark run first end) ≡ steps_to run first end = simp (map-append, plain_blocks, plain_refused) in
    map-append (λ s. s.0) (before_mark run first end) rest ∙ ap (λ l. l ++ map (λ s. s.0) rest) mark

pub plain_before : (run : PlainRun) (first next : ℕ) (step : Step) → map (λ s. s.0) (before run first next step) ≡ steps_before run first next step
plain_before run first next (Block number) = simp plain_blocks
plain_before run first next (Operation (Mark end)) = simp (map-append, plain_blocks, plain_refused)
plain_before run first next (Operation (Unload end)) = plain_after run first end _
plain_before run first next Close = plain_after run first next _
plain_before run first next step = refl

pub plain_then : (run : PlainRun) (first next : ℕ) (step : Step) (wish : Wish) (rest : List (Step × Wish))
    → map (λ s. s.0) (before run first next step ++ (step, wish) ∷ rest) ≡ steps_before run first next step ++ step ∷ map (λ s. s.0) rest
plain_then run first next step wish rest = simp (map-append, plain_before)

-- the last of the blocks
block_push : (run : PlainRun) (first count last : ℕ) → last ≡ first + count
    → block_steps run first (suc count) ≡ block_steps run first count ++ (Block last, Number run.block_bytes) ∷ []
block_push run first zero last at = ap (λ n. (Block n, Number run.block_bytes) ∷ []) (omega arith)
block_push run first (suc count) last at = ap (λ l. (Block first, Number run.block_bytes) ∷ l) (block_push run (suc first) count last (omega arith))

-- An outcome leads to a step of the volume, or to its count, and these steps were answered before.
abbrev pub LeadsOn : PlainRun → ℕ → List (Step × Wish) → Outcome → Type 0
LeadsOn run first answered (GoesOn next) = IsWithin run first next × (before run first first next ≡ answered)
LeadsOn run first answered (Counted end) = CanEnd run first end × (before run first end Close ≡ answered)
LeadsOn run first answered (Fails fault) = Unit {0}
LeadsOn run first answered Ended = ⊥

module _ (run : PlainRun) (first : ℕ) (begins : CanBegin run first) where
  -- after the label, or a block that is written
  next_leads : (number : ℕ) (answered : List (Step × Wish)) → first ≤ number → number ≤ run.blocks → before_block run first number ≡ answered
      → LeadsOn run first answered (GoesOn (block_or_mark run number))
  next_leads number answered h within is = grind (arith, nat_tests, append-nil (before_block run first number))

  block_answered : (number : ℕ) → first ≤ number
      → before_block run first (number + 1) ≡ before_block run first number ++ (Block number, Number run.block_bytes) ∷ []
  block_answered number h = grind (arith, block_push run first (number - first) number)

  -- a step that is done
  step_leads : (step : Step) → IsWithin run first step
      → LeadsOn run first (before run first first step ++ (step, wish_of run step) ∷ []) (after_step run first step)
  step_leads Label w = next_leads first _ (omega arith) (grind arith) (grind arith)
  step_leads (Block number) w = next_leads (number + 1) _ (omega (arith, w.0)) (omega (arith, w.1)) (block_answered number w.0)
  step_leads (Operation (Mark end)) w = (w, refl)
  step_leads (Operation (Unload end)) w = (w, simp append_assoc)
  step_leads Close w = absurd w
  step_leads step w = (tt, refl)

  -- what is heard at a step, by the wish that it grants
  pub heard_leads : (counts : List VolumeCount) (step : Step) (heard : Received) → IsWithin run first step
      → (wish : Wish) × Hears run counts heard wish × LeadsOn run first (before run first first step ++ (step, wish) ∷ []) (outcome run counts first step heard)
  heard_leads counts step heard =
      led run counts first heard
      (λ s o. IsWithin run first s → (wish : Wish) × Hears run counts heard wish × LeadsOn run first (before run first first s ++ (s, wish) ∷ []) o)
      (record {
        done = λ s does w. (wish_of run s, does, step_leads s w);
        full = λ number more full w. (NoRoom, full, grind (arith, nat_tests, w));
        fails = λ s fault w. (Anything, grind arith, tt);
      })
      step

module _ (run : PlainRun) (first : ℕ) where
  -- The script of a volume goes on with the step after those that are answered before it.
  script_at_mark : (end : ℕ) → first ≤ end → steps_of run first (end - first) ≡ before_mark run first end ++ last_steps end
  script_at_mark end h = let at : first + (end - first) ≡ end = omega arith in simp (at, append_assoc)

  pub record Reaches (next : ℕ) (step : Step) (count : ℕ) : Type 0 where
    pub counts : IsCount run first count
    pub ends : EndsAt first next step count
    pub wish : Wish
    pub rest : List (Step × Wish)
    pub script : steps_of run first count ≡ before run first next step ++ (step, wish) ∷ rest

  pub reaches : CanBegin run first → (step : Step) → IsWithin run first step → (count : ℕ) × Reaches first step count
  reaches begins (Block number) w =
      let last = refused_step run (first + suc (number - first)) ++ last_steps (first + suc (number - first)) in (
        suc (number - first),
        record {
          counts = (omega (arith, w.0, w.1), inl (omega arith));
          ends = tt;
          wish = Number run.block_bytes;
          rest = last;
          script = ap (λ l. first_steps ++ (l ++ last)) (block_push run first (number - first) number (omega arith))
              ∙ append_assoc (before_block run first number) ((Block number, Number run.block_bytes) ∷ []) last;
        },
      )
  reaches begins (Operation (Mark end)) w = (
    end - first,
    record { counts = w.1; ends = omega (arith, w.0); wish = _; rest = _; script = script_at_mark end w.0 },
  )
  reaches begins (Operation (Unload end)) w = (
    end - first,
    record {
      counts = w.1;
      ends = omega (arith, w.0);
      wish = Number 1;
      rest = (Close, Anything) ∷ [];
      script = script_at_mark end w.0 ∙ sym (append_assoc (before_mark run first end) _ _);
    },
  )
  reaches begins Close w = absurd w
  reaches begins step w = (run.blocks - first, record { counts = grind (arith, begins); ends = tt; wish = _; rest = _; script = refl })

  pub reaches_close : (next : ℕ) → CanEnd run first next → Reaches next Close (next - first)
  reaches_close next w = record {
    counts = w.1;
    ends = omega (arith, w.0);
    wish = Anything;
    rest = [];
    script = script_at_mark next w.0 ∙ sym (append_assoc (before_mark run first next) _ _);
  }
