-- The client has sent the requests that the script has before a step, and the replies that led to the step are the wanted ones.
use Rattle.dump_client.proofs.Attempt.{◌≡◌, ℕ, List, refl, ◌-◌, ◌≤◌, suc, [], ◌∷◌, ◌++◌, length, map, sym, ◌∙◌, ap, subst, arith, length-append, ◌⊎◌, ◌<◌, append_assoc, map-append, append-nil, take-append_seam, PlainRequest, request_of, Grants, count_to, counted_to, attempt_request, IsUnfinishedRun}
use Rattle.dump_client.proofs.Attempt.{StepFits, steps_before, counts_before, sent_before, sent_with, after_reply, led_on, led_by, AreGranted, Granted, PlainReply, PlainRun, VolumeCount, Wish, checkpoint_of, Step, Close, Open, Reply, Outcome, GoesOn, Counted}
use Rattle.dump_run.proofs.Ordering.{checkpoint_behind}
use Rattle.dump_client.proofs.Outcomes.{close_ends, NotClose}
use Rattle.dump_client.proofs.Steps.{CanBegin, IsWithin, within_not_close, LeadsOn, before, plain_before, plain_then, heard_leads, CanEnd, Reaches, reaches, reaches_close}

-- the request of a step is the same at the checkpoint and at the attempt's start
pub asked : (run : PlainRun) (payload : List (List ℕ)) (counts : List VolumeCount) (step : Step)
    → request_of run payload (checkpoint_of counts).0 (checkpoint_of counts).1 step ≡ attempt_request run payload counts step
asked run payload counts step = grind arith

-- in a run that is not finished, a volume can begin at the checkpoint
pub left_begins : (run : PlainRun) (counts : List VolumeCount) → IsUnfinishedRun run counts → CanBegin run (checkpoint_of counts).1
left_begins run counts left = grind arith

-- a step that fits before the close is one of the volume at the checkpoint, and the run is not finished
pub fits_within : (run : PlainRun) (counts : List VolumeCount) (step : Step) → NotClose step → StepFits run counts step
    → IsUnfinishedRun run counts × IsWithin run (checkpoint_of counts).1 step
fits_within run counts step other fits = grind arith

-- the counts without the last, and where the last ends
pub without_last : (counts : List VolumeCount) (c : VolumeCount) → counts_before Close (counts ++ c ∷ []) ≡ counts
without_last counts c = grind (arith, length-append counts (c ∷ []), take-append_seam counts (c ∷ []))

counted_end : (counts : List VolumeCount) (end : ℕ) → (checkpoint_of counts).1 ≤ end → (checkpoint_of (counted_to counts end)).1 ≡ end
counted_end counts end h = grind (arith, checkpoint_behind 1 0 counts (count_to (checkpoint_of counts) end))

module _ (run : PlainRun) (payload : List (List ℕ)) (counts : List VolumeCount) where
  -- the requests before a step of the attempt at the checkpoint, if its volume ends before block `end`
  abbrev requests : ℕ → Step → List PlainRequest
  requests end step = map (request_of run payload (checkpoint_of counts).0 (checkpoint_of counts).1) (steps_before run (checkpoint_of counts).1 end step)

  sent_plain : (step : Step) → NotClose step → sent_before run payload counts step ≡ requests (checkpoint_of counts).1 step
  sent_plain step before = grind arith

  -- the volume is counted
  closed : (end : ℕ) → (checkpoint_of counts).1 ≤ end → sent_before run payload (counted_to counts end) Close ≡ requests end Close
  closed end h =
      let sent : ℕ × ℕ → ℕ → List PlainRequest = λ at next. map (request_of run payload at.0 at.1) (steps_before run at.1 next Close) in
      ap (λ l. sent (checkpoint_of l) (checkpoint_of (counted_to counts end)).1) (without_last counts (count_to (checkpoint_of counts) end))
      ∙ ap (sent (checkpoint_of counts)) (counted_end counts end h)

  -- one more step is answered, and its request is the last that was sent
  one_more : (end : ℕ) (next step : Step) (wish : Wish) → NotClose step
      → before run (checkpoint_of counts).1 end next ≡ before run (checkpoint_of counts).1 (checkpoint_of counts).1 step ++ (step, wish) ∷ []
      → requests end next ≡ sent_with run payload counts step
  one_more end next Close wish before is = absurd before
  one_more end next step wish before is =
      let first = (checkpoint_of counts).1 in
      let ask : Step → PlainRequest = request_of run payload (checkpoint_of counts).0 first in
      ap (map ask) (sym (plain_before run first end next) ∙ ap (map (λ s. s.0)) is ∙ plain_then run first first step wish [])
      ∙ map-append ask (steps_before run first first step) (step ∷ [])

  -- where an outcome leads on, this is what was sent before the step that it leads to
  abbrev Sent : List PlainRequest → Outcome → Type 0
  Sent sent (GoesOn next) = sent_before run payload counts next ≡ sent
  Sent sent (Counted end) = sent_before run payload (counted_to counts end) Close ≡ sent
  Sent sent outcome = Unit {0}

  leads_sent : (step : Step) (wish : Wish) (o : Outcome) → NotClose step
      → LeadsOn run (checkpoint_of counts).1 (before run (checkpoint_of counts).1 (checkpoint_of counts).1 step ++ (step, wish) ∷ []) o
      → Sent (sent_with run payload counts step) o
  leads_sent step wish (GoesOn next) other h =
      sent_plain next (within_not_close run (checkpoint_of counts).1 next h.0) ∙ one_more (checkpoint_of counts).1 next step wish other h.1
  leads_sent step wish (Counted end) other h = closed end h.0.0 ∙ one_more end Close step wish other h.1
  leads_sent step wish o other h = tt

  reply_sent : (step : Step) (reply : PlainReply) → StepFits run counts step
      → Sent (sent_with run payload counts step) (after_reply run counts (checkpoint_of counts).1 step reply)
  reply_sent Close reply fits = rw (close_ends run counts (checkpoint_of counts).1 (Reply reply)) tt
  reply_sent step reply fits =
      let here = fits_within run counts step tt fits in
      let w = heard_leads run (checkpoint_of counts).1 (left_begins run counts here.0) counts step (Reply reply) here.1 in
      leads_sent step w.0 (after_reply run counts (checkpoint_of counts).1 step reply) tt w.2

  pub sent_next : (step next : Step) (reply : PlainReply) → StepFits run counts step → after_reply run counts (checkpoint_of counts).1 step reply ≡ GoesOn next
      → sent_before run payload counts next ≡ sent_with run payload counts step
  sent_next step next reply fits leads = rw leads at (reply_sent step reply fits)

  pub sent_counted : (step : Step) (end : ℕ) (reply : PlainReply) → StepFits run counts step
      → after_reply run counts (checkpoint_of counts).1 step reply ≡ Counted end
      → sent_before run payload (counted_to counts end) Close ≡ sent_with run payload counts step
  sent_counted step end reply fits leads = rw leads at (reply_sent step reply fits)

module _ (run : PlainRun) (had : List VolumeCount) where
  -- one reply to each of these steps, which it wants
  abbrev Answer : List (Step × Wish) → List PlainReply → Type 0
  Answer [] [] = Unit {0}
  Answer (s ∷ steps) (reply ∷ replies) = Grants run had s.1 reply × Answer steps replies
  Answer steps replies = ⊥

  answer_push : (steps : List (Step × Wish)) (replies : List PlainReply) (s : Step) (w : Wish) (reply : PlainReply) → Answer steps replies
      → Grants run had w reply
      → Answer (steps ++ (s, w) ∷ []) (replies ++ reply ∷ [])
  answer_push [] [] s w reply h g = (g, tt)
  answer_push (t ∷ steps) (r ∷ replies) s w reply h g = (h.0, answer_push steps replies s w reply h.1 g)
  answer_push steps replies s w reply h g = absurd h

  answer_granted : (steps rest : List (Step × Wish)) (replies : List PlainReply) → Answer steps replies
      → AreGranted run had (map (λ s. s.1) (steps ++ rest)) replies
  answer_granted [] rest [] h = tt
  answer_granted (t ∷ steps) rest (r ∷ replies) h = (h.0, answer_granted steps rest replies h.1)
  answer_granted steps rest replies h = absurd h

  answer_length : (steps : List (Step × Wish)) (replies : List PlainReply) → Answer steps replies → length replies ≡ length (map (λ s. s.0) steps)
  answer_length [] [] h = refl
  answer_length (t ∷ steps) (r ∷ replies) h = ap suc (answer_length steps replies h.1)
  answer_length steps replies h = absurd h

  module _ (first : ℕ) (begins : CanBegin run first) where
    -- these replies led here
    abbrev Led : Outcome → List PlainReply → Type 0
    Led (GoesOn step) came = IsWithin run first step × Answer (before run first first step) came
    Led (Counted next) came = CanEnd run first next × Answer (before run first next Close) came
    Led from came = Unit {0}

    leads_led : (steps : List (Step × Wish)) (came : List PlainReply) (o : Outcome) → LeadsOn run first steps o → Answer steps came → Led o came
    leads_led steps came o h a = grind (arith, h)

    step_led : (step : Step) (reply : PlainReply) (came : List PlainReply) → Led (GoesOn step) came
        → Led (after_reply run had first step reply) (came ++ reply ∷ [])
    step_led step reply came h =
        let w = heard_leads run first begins had step (Reply reply) h.0 in
        leads_led _ (came ++ reply ∷ []) (after_reply run had first step reply) w.2 (answer_push (before run first first step) came step w.0 reply h.1 w.1)

    all_led : (replies came : List PlainReply) (from : Outcome) → Led from came → Led (led_on run had first from replies) (came ++ replies)
    all_led [] came from h = rw append-nil h
    all_led (reply ∷ replies) came (GoesOn step) h =
        rw append_assoc at (all_led replies (came ++ reply ∷ []) (after_reply run had first step reply) (step_led step reply came h))
    -- the reply to the close ends the attempt
    all_led (reply ∷ replies) came (Counted next) h = rw append_assoc at
        (all_led replies (came ++ reply ∷ []) (after_reply run had first Close reply) (rw (close_ends run had first (Reply reply)) tt))
    all_led (reply ∷ replies) came o h = tt

    -- where the script goes on with a step after those that are answered
    granted_of : (next count : ℕ) (step : Step) (replies : List PlainReply) → Reaches run first next step count → Answer (before run first next step) replies
        → Granted run had first next count step replies
    granted_of next count step replies r a = record {
      counts = r.counts;
      ends = r.ends;
      granted = subst (λ l. AreGranted run had (map (λ s. s.1) l) replies) (sym r.script) (answer_granted (before run first next step) ((step, r.wish) ∷ r.rest) replies a);
      answered = answer_length (before run first next step) replies a ∙ ap length (plain_before run first next step);
      rest = map (λ s. s.0) r.rest;
      goes_on = ap (map (λ s. s.0)) r.script ∙ plain_then run first next step r.wish r.rest;
    }

    led_to : (replies : List PlainReply) (o : Outcome) → led_by run had first Open replies ≡ o → Led o replies
    led_to replies o led = rw led at (all_led replies [] (GoesOn Open) (tt, tt))

-- the replies that led to a step
pub granted_on_the_way : (run : PlainRun) (had : List VolumeCount) (first : ℕ) (step : Step) (replies : List PlainReply) → first ≤ run.blocks
    → (first < run.blocks) ⊎ (run.blocks ≡ 0) → led_by run had first Open replies ≡ GoesOn step → (count : ℕ) × Granted run had first first count step replies
granted_on_the_way run had first step replies within some led =
    let begins : CanBegin run first = grind arith in
    let h = led_to run had first begins replies (GoesOn step) led in
    let r = reaches run first begins step h.0 in
    (r.0, granted_of run had first begins first r.0 step replies r.1 h.1)

-- the replies that led to the count
pub granted_when_counted : (run : PlainRun) (had : List VolumeCount) (first next : ℕ) (replies : List PlainReply) → first ≤ run.blocks
    → (first < run.blocks) ⊎ (run.blocks ≡ 0) → led_by run had first Open replies ≡ Counted next → Granted run had first next (next - first) Close replies
granted_when_counted run had first next replies within some led =
    let begins : CanBegin run first = grind arith in
    let h = led_to run had first begins replies (Counted next) led in
    granted_of run had first begins next (next - first) Close replies (reaches_close run first next h.0) h.1
