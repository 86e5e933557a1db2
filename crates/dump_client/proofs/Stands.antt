-- A lawful client is at a position of its attempt's volume, and MTOFFL is among the requests there only after the volume's mark.
use Rattle.dump_client.proofs.Attempt.{All, rules, ◌≡◌, ℕ, zero, suc, ◌-◌, ◌<◌, Bool, true, false, if◌then◌else◌, nat_lt, List, [], ◌∷◌, ◌++◌, map, Contains, sym, ap, subst, arith, ◌+◌, length, take, refl, ◌∙◌, append_assoc, length-append, map-append, All-from_recursion, All-nil, All-append}
use Rattle.dump_client.proofs.Attempt.{All-push, All-map, All-contains, Contains-append_right, Contains-push, take-length, take-append_seam, PlainRequest, Op, Position, PlainRun, VolumeCount, Wish, Step, Operation, Block, Close, Mark, Unload, Standing, checkpoint_of, Stage, ToSend}
use Rattle.dump_client.proofs.Attempt.{Waiting, blocks_from, steps_to_block, steps_to, steps_before, AreVolumes, StepFits, StageFits, IsLawful, counts_before, attempt_at, sent_before, sent_with, StandsAtStep, StandsAt}
use Rattle.std.specs.List.{AllByRecursion as ByRecursion}
use Rattle.rmt_wire.specs.declared.mtio.TheConstants.{MTOFFL, MTWEOF}
use Rattle.dump_client.specs.Script.{request_of, IsCount, steps_of, script}
use Rattle.dump_client.proofs.Outcomes.{NotClose}
use Rattle.dump_run.proofs.Ordering.{checkpoint_behind, volumes_last}
use Rattle.dump_client.proofs.Order.{left_begins, fits_within, without_last}
use Rattle.dump_client.proofs.Steps.{Reaches, plain_then, reaches, reaches_close}

-- the number of the operation that is asked for, and 0 where none is
abbrev op_of : PlainRequest → ℕ
op_of (Op op count) = op
op_of request = 0

module _ (run : PlainRun) (payload : List (List ℕ)) (volume first : ℕ) where
  -- the number of a step's operation is less than that of MTOFFL
  abbrev Small : Step → Type 0
  Small step = op_of (request_of run payload volume first step) < 6

  small_blocks : (number count : ℕ) → ByRecursion Small (blocks_from number count)
  small_blocks number zero = tt
  small_blocks number (suc count) = (omega arith, small_blocks (suc number) count)

  small_refused : (next : ℕ) (left : Bool) → All Small (if left then Block next ∷ [] else [])
  small_refused next true = All-from_recursion Small (Block next ∷ []) (omega arith, tt)
  small_refused next false = All-nil Small

  to_block : (number : ℕ) → All Small (steps_to_block first number)
  to_block number = All-from_recursion Small (steps_to_block first number) (grind (arith, small_blocks first (number - first)))

  to_mark : (next : ℕ) → All Small (steps_to run first next)
  to_mark next = All-append Small (steps_to_block first next) _ (to_block next) (small_refused next (nat_lt next run.blocks))

  small_before : (next : ℕ) (step : Step) → NotClose step → All Small (steps_before run first next step)
  small_before next (Block number) other = to_block number
  small_before next (Operation (Mark end)) other = to_mark end
  small_before next (Operation (Unload end)) other = All-push Small (steps_to run first end) (Operation (Mark end)) (to_mark end) (omega arith)
  small_before next Close other = absurd other
  small_before next step other = All-from_recursion Small (steps_before run first next step) (search (rules, arith))

  -- before the close MTOFFL is not among the requests
  not_unloaded : (next : ℕ) (step : Step) → NotClose step
      → Contains (map (request_of run payload volume first) (steps_before run first next step)) (Op MTOFFL 1) → ⊥
  not_unloaded next step other h =
      let six : op_of (Op MTOFFL 1) < 6 = All-contains (λ r. op_of r < 6) _ _
      (All-map (λ r. op_of r < 6) (request_of run payload volume first) _ (small_before next step other)) h in absurd (omega arith)

  -- at the close it is
  unloaded : (next : ℕ) → Contains (map (request_of run payload volume first) (steps_before run first next Close)) (Op MTOFFL 1)
  unloaded next =
      let sent : Step → PlainRequest = request_of run payload volume first in
      subst (λ l. Contains l (Op MTOFFL 1)) (sym (map-append sent (steps_to run first next) (Operation (Mark next) ∷ Operation (Unload next) ∷ [])))
      (Contains-append_right (map sent (steps_to run first next)) (Op MTWEOF 1 ∷ Op MTOFFL 1 ∷ []) (Op MTOFFL 1) (Contains-push (Op MTWEOF 1 ∷ []) (Op MTOFFL 1)))

-- the requests of steps
sent_of : (f : Step → PlainRequest) (steps : List (Step × Wish))
    → map (λ (p : PlainRequest × Wish). p.0) (map (λ s. (f s.0, s.1)) steps) ≡ map f (map (λ s. s.0) steps)
sent_of f [] = refl
sent_of f (s ∷ steps) = ap (λ l. f s.0 ∷ l) (sent_of f steps)

abbrev requests_before : PlainRun → List (List ℕ) → ℕ → ℕ → ℕ → Step → List PlainRequest
requests_before run payload volume first next step = map (request_of run payload volume first) (steps_before run first next step)

-- it is a position of the volume, and these are the answered requests
abbrev IsPlaced : PlainRun → List (List ℕ) → ℕ → ℕ → ℕ → ℕ → Step → List PlainRequest → ℕ → Type 0
IsPlaced run payload volume first next count step sent got =
    Position run payload volume first count sent got × (take got sent ≡ requests_before run payload volume first next step)

-- a step is to be sent, or was sent and waits for its reply
module _ (run : PlainRun) (payload : List (List ℕ)) (volume first next : ℕ) (step : Step) where
  abbrev before_it : List PlainRequest
  before_it = requests_before run payload volume first next step

  abbrev here : PlainRequest
  here = request_of run payload volume first step

  begins : (count : ℕ) (r : Reaches run first next step count)
      → map (λ p. p.0) (script run payload volume first count) ≡ before_it ++ here ∷ map (request_of run payload volume first) (map (λ s. s.0) r.rest)
  begins count r =
      sent_of (request_of run payload volume first) (steps_of run first count)
      ∙ ap (map (request_of run payload volume first)) (ap (map (λ s. s.0)) r.script ∙ plain_then run first next step r.wish r.rest)
      ∙ map-append (request_of run payload volume first) (steps_before run first next step) (step ∷ map (λ s. s.0) r.rest)

  to_send : (count : ℕ) → Reaches run first next step count → IsPlaced run payload volume first next count step before_it (length before_it)
  to_send count r = (record { counts = r.counts; unsent = _; begins = begins count r; answered = omega arith; awaited = omega arith }, take-length before_it)

  waiting : (count : ℕ) → Reaches run first next step count → IsPlaced run payload volume first next count step (before_it ++ here ∷ []) (length before_it)
  waiting count r =
      let long = length-append before_it (here ∷ []) in
      let more = map (request_of run payload volume first) (map (λ s. s.0) r.rest) in (
        record {
          counts = r.counts;
          unsent = more;
          begins = begins count r ∙ sym (append_assoc before_it (here ∷ []) more);
          answered = omega arith;
          awaited = omega arith;
        },
        take-append_seam before_it (here ∷ []),
      )

-- a list that is not empty ends with an element
ends_with : {A : Type 0} (d : A) (l : List A) → (before : List A) × (c : A) × (d ∷ l ≡ before ++ c ∷ [])
ends_with d [] = ([], d, refl)
ends_with d (e ∷ l) = let r = ends_with e l in (d ∷ r.0, r.1, ap (λ l. d ∷ l) r.2)

-- the last of the counts is this volume's
last_is : (run : PlainRun) (counts : List VolumeCount) → AreVolumes run 1 0 counts → 0 < length counts
    → (count : ℕ) × IsCount run (attempt_at Close counts).1 count × ((checkpoint_of counts).1 ≡ (attempt_at Close counts).1 + count)
    × (counts ≡ counts_before Close counts ++ record { volume = (attempt_at Close counts).0; first = (attempt_at Close counts).1; count = count } ∷ [])
last_is run [] v some = absurd (omega arith)
last_is run (d ∷ counts) v some =
    let r = ends_with d counts in
    let f = volumes_last run 1 0 r.0 r.1 (subst (AreVolumes run 1 0) r.2 v) in
    let taken : counts_before Close (d ∷ counts) ≡ r.0 = ap (counts_before Close) r.2 ∙ without_last r.0 r.1 in
    let end : checkpoint_of (d ∷ counts) ≡ (r.1.volume + 1, r.1.first + r.1.count) = ap checkpoint_of r.2 ∙ checkpoint_behind 1 0 r.0 r.1 in
    (r.1.count, rw taken f.count, grind (arith, taken, f.first, end), grind (arith, taken, r.2, f.volume, f.first))

-- The client is at the position of its step: in the volume at the checkpoint, or at the close, in the last one that is counted.
step_stands : (run : PlainRun) (payload : List (List ℕ)) (counts : List VolumeCount) (step : Step) (sent : List PlainRequest) (got : ℕ)
    → AreVolumes run 1 0 counts → StepFits run counts step
    → ((count : ℕ) → Reaches run (attempt_at step counts).1 (checkpoint_of counts).1 step count
    → IsPlaced run payload (attempt_at step counts).0 (attempt_at step counts).1 (checkpoint_of counts).1 count step sent got)
    → StandsAtStep run payload counts step sent got
step_stands run payload counts Close sent got v fits places =
    let last = last_is run counts v fits in
    let first = (attempt_at Close counts).1 in
    let next = (checkpoint_of counts).1 in
    let same : next - first ≡ last.0 = omega (arith, last.2) in
    let closes = reaches_close run first next (omega (arith, last.2), subst (IsCount run first) (sym same) last.1) in
    let placed = places last.0 (subst (Reaches run first next Close) same closes) in
    (last.0, placed.0, (record { position = placed.0; unloaded = rw placed.1 (unloaded run payload (attempt_at Close counts).0 first next) }, last.3))
step_stands run payload counts step sent got v fits places =
    let first = (checkpoint_of counts).1 in
    let here = fits_within run counts step tt fits in
    let r = reaches run first (left_begins run counts here.0) step here.1 in
    let placed = places r.0 r.1 in
    (r.0, placed.0, rw placed.1 (not_unloaded run payload (checkpoint_of counts).0 first first step tt))

stage_stands : (run : PlainRun) (payload : List (List ℕ)) (counts : List VolumeCount) (stage : Stage) → AreVolumes run 1 0 counts → StageFits run counts stage
    → StandsAt run payload counts stage
stage_stands run payload counts (ToSend step) v fits =
    step_stands run payload counts step (sent_before run payload counts step) _ v fits
    (to_send run payload (attempt_at step counts).0 (attempt_at step counts).1 (checkpoint_of counts).1 step)
stage_stands run payload counts (Waiting step) v fits =
    step_stands run payload counts step (sent_with run payload counts step) _ v fits
    (waiting run payload (attempt_at step counts).0 (attempt_at step counts).1 (checkpoint_of counts).1 step)
stage_stands run payload counts stage v fits = tt

-- a lawful client is at a position of its volume's script
pub stands : (s : Standing) (payload : List (List ℕ)) → IsLawful s → StandsAt s.run payload s.counts s.stage
stands s payload lawful = stage_stands s.run payload s.counts s.stage lawful.counts lawful.stage
