-- How an outcome changes a client, and which request is unanswered then. The crates above do not see outcomes, so they use these lemmas.
use Rattle.dump_client.specs.declared.stage.Progress.TheVariants as moved
use Rattle.dump_client.proofs.Attempt.{ReplyHeld, ◌≡◌, inl, inr, ℕ, Bool, true, false, List, [], refl, None, ◌+◌, ◌∷◌, length, arith, ReplyUnread, reply_held, CoversFrom, IsOver, Becomes, counted_to, HasFedAt, unanswered, PlainRun, VolumeCount, Standing, standing, Outcome, GoesOn, Fails}
use Rattle.dump_client.proofs.Attempt.{Counted, Ended, Progress, Step, AttemptFault, Botched, Close, Stage, Ready, ToSend, Asking, Finished}
use mathlib.Core.Logic.Dec.{and as both}
use native.Mathlib.Decide.{ℕ_discrete, dec_lt, map_dec}
use Rattle.dump_client.proofs.Outcomes.{IsFinal}

-- the run stays the same
pub becomes_run : (old : Standing) (outcome : Outcome) (more : Bool) (progress : Progress) (new : Standing) → Becomes old outcome more progress new
    → new.run ≡ old.run
becomes_run old outcome more progress new h = grind (arith, h)

-- after an outcome no byte is unanswered
pub becomes_fed : (old : Standing) (outcome : Outcome) (more : Bool) (progress : Progress) (new : Standing) (r : ReplyHeld) (bytes : List ℕ)
    → Becomes old outcome more progress new
    → (more ≡ false → ReplyUnread r None []) → HasFedAt new.stage r (unanswered new.stage bytes)
becomes_fed old outcome more progress new r bytes h k = grind (arith, h)

-- after bytes that are no reply, and the end of the connection, nothing is to be sent
pub final_fed : (old : Standing) (o : Outcome) (more : Bool) (progress : Progress) (new : Standing) (r : ReplyHeld) (bytes : List ℕ) → IsFinal o
    → Becomes old o more progress new → HasFedAt new.stage r (unanswered new.stage bytes)
final_fed old o more progress new r bytes final h = grind (arith, h)

-- The attempt failed, goes on to a step, counted its volume and goes on to its close, or is over, with the count where bytes
-- follow the reply to MTOFFL.
pub data HeardAs (old new : Standing) (more : Bool) (progress : Progress) : Type 0 where
  has_failed : (fault : AttemptFault) → progress ≡ moved.Failed fault → new ≡ standing old.run old.counts Asking → HeardAs old new more progress
  goes_to : (next : Step) → more ≡ false → progress ≡ moved.Send → new ≡ standing old.run old.counts (ToSend next) → HeardAs old new more progress
  has_counted : (end : ℕ) → more ≡ false → progress ≡ moved.Send → new ≡ standing old.run (counted_to old.counts end) (ToSend Close)
      → HeardAs old new more progress
  has_ended : progress ≡ moved.Ended → IsOver old.run old.counts new → HeardAs old new more progress
  counted_last : (end : ℕ) → more ≡ true → progress ≡ moved.Ended → IsOver old.run (counted_to old.counts end) new → HeardAs old new more progress

-- each outcome is one of these
pub heard_as : (old new : Standing) (o : Outcome) (more : Bool) (progress : Progress) → Becomes old o more progress new → HeardAs old new more progress
heard_as old new (GoesOn step) false progress (tells, is) = goes_to step refl tells is
heard_as old new (GoesOn step) true progress (tells, is) = has_failed Botched tells is
heard_as old new (Fails fault) more progress (tells, is) = has_failed fault tells is
heard_as old new (Counted next) false progress (tells, is) = has_counted next refl tells is
heard_as old new (Counted next) true progress (tells, over) = counted_last next refl tells over
heard_as old new Ended more progress (tells, over) = has_ended tells over

-- a stage in which nothing waits for a reply: a new reader is as it is to be
pub record IsAtRest (stage : Stage) : Type 0 where
  pub fed : (bytes : List ℕ) → HasFedAt stage (reply_held None []) (unanswered stage bytes)
  pub none : HasFedAt stage (reply_held None []) []

to_send_rests : (step : Step) → IsAtRest (ToSend step)
to_send_rests step = record { fed = λ bytes. (record { waits = refl; keeps = refl }, refl); none = (record { waits = refl; keeps = refl }, refl) }

-- the counts are the whole run, or are not
covers_from : (blocks volume first : ℕ) (counts : List VolumeCount) → Dec (CoversFrom blocks volume first counts)
covers_from blocks volume first [] = ℕ_discrete first blocks
covers_from blocks volume first (c ∷ counts) = map_dec (λ h. (h.0.0, h.0.1, h.1)) (λ h. ((h.0, h.1), h.2))
    (both (both (ℕ_discrete c.volume volume) (ℕ_discrete c.first first)) (covers_from blocks (volume + 1) (first + c.count) counts))

-- the attempt is over
pub over_can : (run : PlainRun) (counts : List VolumeCount) → (new : Standing) × IsOver run counts new × IsAtRest new.stage
over_can run counts = elim (both (dec_lt 0 (length counts)) (covers_from run.blocks 1 0 counts)) [
  | yes covers ↦ (standing run counts Finished, inl (covers, refl), record { fed = λ bytes. refl; none = refl })
  | no not ↦ (standing run counts Ready, inr (not, refl), record { fed = λ bytes. refl; none = refl })
]

-- each outcome makes something of a client, which then waits for no reply
pub outcome_can : (old : Standing) (o : Outcome) (more : Bool) → (progress : Progress) × (new : Standing) × Becomes old o more progress new × IsAtRest new.stage
outcome_can old (GoesOn step) false = (moved.Send, standing old.run old.counts (ToSend step), (refl, refl), to_send_rests step)
outcome_can old (GoesOn step) true =
    (moved.Failed Botched, standing old.run old.counts Asking, (refl, refl), record { fed = λ bytes. refl; none = refl })
outcome_can old (Fails fault) more =
    (moved.Failed fault, standing old.run old.counts Asking, (refl, refl), record { fed = λ bytes. refl; none = refl })
outcome_can old (Counted next) false = (moved.Send, standing old.run (counted_to old.counts next) (ToSend Close), (refl, refl), to_send_rests Close)
outcome_can old (Counted next) true = let o = over_can old.run (counted_to old.counts next) in (moved.Ended, o.0, (refl, o.1), o.2)
outcome_can old Ended more = let o = over_can old.run old.counts in (moved.Ended, o.0, (refl, o.1), o.2)
