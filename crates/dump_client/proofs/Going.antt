-- Bytes, and the end of a connection, change a client by one row (`Changes`). Each law of such a step is a part of this row.
use Rattle.dump_client.specs.declared.stage.Progress.TheVariants as moved
use Rattle.dump_client.proofs.Attempt.{◌≡◌, ℕ, ◌<◌, true, List, [], ◌∷◌, Some, None, refl, sym, ◌≢◌, ◌⊎◌, ◌≤◌, length, arith, Bool, false, Ok, Err, ◌∙◌, inl, inr, bytes_eq-Decides, append-nil, label, outcome, after_reply, after_noise, after_end, IsAtStep, counted_to, count_to, IsOver}
use Rattle.dump_client.proofs.Attempt.{Becomes, ReceivesAt, FedAt, CutAt, IsSummary, PlainReply, Done, Data, Error, PlainRun, IsRun, VolumeCount, Wish, Received, Reply, Noise, End, Standing, checkpoint_of, standing, Step, Close, Outcome, GoesOn, Fails, Counted, Ended, AttemptFault, Stage, ToSend}
use Rattle.dump_client.proofs.Attempt.{Waiting, Ready, Asking, Finished, Progress, Botched, IsLawful, IsUnfinishedRun, StepFits, StageFits, RoomFits, OutcomeFits, AreVolumes}
use Rattle.dump_client.specs.declared.listen.ReplySummary.{ReplySummary}
use Rattle.dump_client.specs.Going.{GoesOnWith, AgreesWithProgress}
use Rattle.dump_client.specs.declared.listen.ReplySummary.TheVariants as summary
use Rattle.dump_client.proofs.Order.{left_begins, fits_within}
use Rattle.dump_client.proofs.Outcomes.{close_ends, IsFinal, end_final}
use Rattle.dump_client.proofs.Steps.{IsWithin, LeadsOn, heard_leads}
use Rattle.dump_client.proofs.Checkpoint.{left_of, volumes_to, counted_some}

module _ (run : PlainRun) (counts : List VolumeCount) (room : ℕ) where
  leads_fit : (answered : List (Step × Wish)) (o : Outcome) → IsUnfinishedRun run counts → 0 < room → LeadsOn run (checkpoint_of counts).1 answered o
      → OutcomeFits run counts room o
  leads_fit answered o left r h = grind (arith, h)

  -- whatever labels a record was compared with
  outcome_fits : (had : List VolumeCount) (step : Step) (heard : Received) → StepFits run counts step → RoomFits (ToSend step) room
      → OutcomeFits run counts room (outcome run had (checkpoint_of counts).1 step heard)
  outcome_fits had Close heard fits r = rw (close_ends run had (checkpoint_of counts).1 heard) fits
  outcome_fits had step heard fits r =
      let here = fits_within run counts step tt fits in
      leads_fit _ (outcome run had (checkpoint_of counts).1 step heard) here.0 r
      (heard_leads run (checkpoint_of counts).1 (left_begins run counts here.0) had step heard here.1).2

-- whatever a lawful client hears
pub heard_at : (s : Standing) (had : List VolumeCount) (room : ℕ) (step : Step) (heard : Received) → IsLawful s → RoomFits s.stage room → IsAtStep s.stage step
    → OutcomeFits s.run s.counts room (outcome s.run had (checkpoint_of s.counts).1 step heard)
heard_at s had room step heard lawful r at =
    outcome_fits s.run s.counts room had step heard (grind (arith, lawful.stage)) (grind (arith, r))

-- a reply to the step of a lawful client
pub reply_at : (s : Standing) (had : List VolumeCount) (room : ℕ) (step : Step) (reply : PlainReply) → IsLawful s → RoomFits s.stage room
    → IsAtStep s.stage step
    → OutcomeFits s.run s.counts room (after_reply s.run had (checkpoint_of s.counts).1 step reply)
reply_at s had room step reply lawful r at = heard_at s had room step (Reply reply) lawful r at

-- bytes that are no reply, at the step of a lawful client
pub noise_at : (s : Standing) (room : ℕ) (step : Step) → IsLawful s → RoomFits s.stage room → IsAtStep s.stage step
    → OutcomeFits s.run s.counts room (after_noise step)
noise_at s room step lawful r at = heard_at s [] room step Noise lawful r at

-- the end of the connection, at the step of a lawful client
pub end_at : (s : Standing) (room : ℕ) (step : Step) → IsLawful s → RoomFits s.stage room → IsAtStep s.stage step
    → OutcomeFits s.run s.counts room (after_end step)
end_at s room step lawful r at = heard_at s [] room step End lawful r at

-- each summary is that of some reply, to a client with some counts
pub reply_summary : (run : PlainRun) (s : ReplySummary) → (had : List VolumeCount) × (reply : PlainReply) × IsSummary run had reply s
reply_summary run (summary.Number n) = ([], Done n, refl)
reply_summary run (summary.Error n) = ([], Error n [], refl)
reply_summary run (summary.Looked None) = ([], Data [], refl)
reply_summary run (summary.Looked (Some volume)) =
    let bytes = label run volume 0 in
    (record { volume = volume; first = 0; count = 0 } ∷ [], Data bytes, rw ((bytes_eq-Decides bytes bytes).1 refl) refl)

-- A client becomes `new`. It counts at most one volume more, and that only where it can, in an attempt that does not fail.
pub record Changes (can : Type 0) (old : Standing) (progress : Progress) (new : Standing) : Type 0 where
  pub more : List VolumeCount
  pub goes_on : GoesOnWith old new more
  pub few : length more ≤ 1
  pub kept : (more ≡ []) ⊎ (can × ((fault : AttemptFault) → progress ≢ moved.Failed fault))
  pub agrees : AgreesWithProgress old progress new
  pub lawful : IsLawful old → IsLawful new

-- a client whose run is over is lawful
pub over_lawful : (run : PlainRun) (counts : List VolumeCount) (new : Standing) → IsOver run counts new → IsRun run → AreVolumes run 1 0 counts → IsLawful new
over_lawful run counts new over of volumes = grind (arith, over, of, volumes, left_of run counts volumes)

module _ (can : Type 0) (old : Standing) where
  -- the client enters this stage, and counts nothing
  keeps : (stage : Stage) (tells : Progress) → (old.stage ≡ Finished → stage ≡ Finished) → AgreesWithProgress old tells (standing old.run old.counts stage)
      → (IsLawful old → StageFits old.run old.counts stage) → Changes can old tells (standing old.run old.counts stage)
  keeps stage tells finished agrees fits = record {
    more = [];
    goes_on = record { run = refl; counts = sym (append-nil old.counts); finished = λ at. (finished at, refl) };
    few = omega arith;
    kept = inl refl;
    agrees = agrees;
    lawful = λ l. record { run = l.run; counts = l.counts; stage = fits l };
  }

  module _ (unlike : old.stage ≢ Finished) where
    -- the client counts its volume, and enters this stage
    counts_to : (end : ℕ) (stage : Stage) (tells : Progress) → can → ((fault : AttemptFault) → tells ≢ moved.Failed fault)
        → AgreesWithProgress old tells (standing old.run (counted_to old.counts end) stage) → (IsLawful old → OutcomeFits old.run old.counts 1 (Counted end))
        → (AreVolumes old.run 1 0 (counted_to old.counts end) → StageFits old.run (counted_to old.counts end) stage)
        → Changes can old tells (standing old.run (counted_to old.counts end) stage)
    counts_to end stage tells may well agrees fits there = record {
      more = count_to (checkpoint_of old.counts) end ∷ [];
      goes_on = record { run = refl; counts = refl; finished = λ at. absurd (unlike at) };
      few = omega arith;
      kept = inr (may, well);
      agrees = agrees;
      lawful = λ l. (let volumes = volumes_to old.run old.counts end l.counts (fits l).0.0 (fits l).0.1.1 in
          record { run = l.run; counts = volumes; stage = there volumes });
    }

    becomes : (o : Outcome) (more : Bool) (progress : Progress) (new : Standing) → ((IsFinal o → ⊥) → can)
        → (IsLawful old → OutcomeFits old.run old.counts 1 o) → Becomes old o more progress new → Changes can old progress new
    becomes (GoesOn step) false progress new may fits (told, is) =
        rw (told, is) (keeps (ToSend step) moved.Send (λ at. absurd (unlike at)) (step, refl) (λ l. (fits l).1))
    becomes (GoesOn step) true progress new may fits (told, is) =
        rw (told, is) (keeps Asking (moved.Failed Botched) (λ at. absurd (unlike at)) refl (λ l. (fits l).0))
    becomes (Fails fault) more progress new may fits (told, is) =
        rw (told, is) (keeps Asking (moved.Failed fault) (λ at. absurd (unlike at)) refl (λ l. fits l))
    becomes (Counted next) false progress new may fits (told, is) = rw (told, is)
        (counts_to next (ToSend Close) moved.Send (may (λ final. final)) (λ fault e. cc) (Close, refl) fits (λ volumes. counted_some old.counts next))
    becomes (Counted next) true progress new may fits (told, inl (covers, is)) = rw (told, is)
        (counts_to next Finished moved.Ended (may (λ final. final)) (λ fault e. cc) (inl refl) fits (λ volumes. covers))
    becomes (Counted next) true progress new may fits (told, inr (left, is)) = rw (told, is)
        (counts_to next Ready moved.Ended (may (λ final. final)) (λ fault e. cc) (inr refl) fits (λ volumes. left_of old.run _ volumes left))
    becomes Ended more progress new may fits (told, inl (covers, is)) = rw (told, is) (keeps Finished moved.Ended (λ at. refl) (inl refl) (λ l. covers))
    becomes Ended more progress new may fits (told, inr (left, is)) =
        rw (told, is) (keeps Ready moved.Ended (λ at. absurd (unlike at)) (inr refl) (λ l. left_of old.run old.counts l.counts left))

module _ (can : Type 0) (old new : Standing) (progress : Progress) (stage : Stage) (at : old.stage ≡ stage) where
  -- in an attempt, by what is heard
  heard : (step : Step) (it : Received) (more : Bool) → IsAtStep stage step
      → ((IsFinal (outcome old.run old.counts (checkpoint_of old.counts).1 step it) → ⊥) → can) → ReceivesAt old step it more progress new
      → Changes can old progress new
  heard step it more here may hears =
      becomes can old (unlike stage at here) (outcome old.run old.counts (checkpoint_of old.counts).1 step it) more progress new may
      (λ l. heard_at old old.counts 1 step it l (one_room old.stage) (rw at here)) hears
    where
      -- there is always room for one count
      one_room : (stage : Stage) → RoomFits stage 1
      one_room stage = grind arith

      unlike : (stage : Stage) → old.stage ≡ stage → IsAtStep stage step → old.stage ≢ Finished
      unlike stage at here e = grind arith

  -- nothing changes
  stays : (tells : Progress) → AgreesWithProgress old tells old → (progress ≡ tells) × (new ≡ old) → Changes can old progress new
  stays tells agrees (told, is) = rw (told, is) (keeps can old old.stage tells (λ e. e) agrees (λ l. l.stage))

fed_at : (stage : Stage) (old new : Standing) (bytes piece : List ℕ) (progress : Progress) → old.stage ≡ stage → FedAt stage old bytes piece progress new
    → Changes (Unit {0}) old progress new
fed_at (ToSend step) old new bytes piece progress at (inl h) = stays _ old new progress (ToSend step) at moved.Send (step, at) (h.1, h.2)
fed_at (ToSend step) old new bytes piece progress at (inr (some, hears)) = heard _ old new progress (ToSend step) at step Noise false refl (λ may. tt) hears
fed_at (Waiting step) old new bytes piece progress at (Ok None, rest, parses, same) = stays _ old new progress (Waiting step) at moved.Waiting (step, at) same
fed_at (Waiting step) old new bytes piece progress at (Ok (Some reply), rest, parses, hears) =
    heard _ old new progress (Waiting step) at step (Reply reply) _ refl (λ may. tt) hears
fed_at (Waiting step) old new bytes piece progress at (Err fault, rest, parses, hears) =
    heard _ old new progress (Waiting step) at step Noise false refl (λ may. tt) hears
fed_at stage old new bytes piece progress at same = stays _ old new progress stage at moved.Idle (refl, λ step. (λ e. grind arith, λ e. grind arith)) same

cut_at : (stage : Stage) (old new : Standing) (progress : Progress) → old.stage ≡ stage → CutAt stage old progress new → Changes ⊥ old progress new
cut_at (ToSend step) old new progress at hears = heard _ old new progress (ToSend step) at step End false refl (λ may. may (end_final step)) hears
cut_at (Waiting step) old new progress at hears = heard _ old new progress (Waiting step) at step End false refl (λ may. may (end_final step)) hears
cut_at stage old new progress at same = stays _ old new progress stage at moved.Idle (refl, λ step. (λ e. grind arith, λ e. grind arith)) same

-- a piece of bytes changes a client so
pub fed_changes : (old new : Standing) (bytes piece : List ℕ) (progress : Progress) → FedAt old.stage old bytes piece progress new
    → Changes (Unit {0}) old progress new
fed_changes old new bytes piece progress fed = fed_at old.stage old new bytes piece progress refl fed

-- the end of the connection changes a client so, and counts nothing
pub cut_changes : (old new : Standing) (progress : Progress) → CutAt old.stage old progress new → Changes ⊥ old progress new
cut_changes old new progress cut = cut_at old.stage old new progress refl cut

-- a failure leaves the counts
pub failed : (can : Type 0) (old new : Standing) (fault : AttemptFault) → Changes can old (moved.Failed fault) new → new.counts ≡ old.counts
failed can old new fault w =
    let none : w.more ≡ [] = elim w.kept [ inl none ↦ none | inr kept ↦ absurd (kept.1 fault refl) ] in w.goes_on.counts ∙ rw none (append-nil old.counts)

-- a client that is fed keeps its run and its counts
pub fed_goes_on : (old new : Standing) (bytes piece : List ℕ) (progress : Progress) → FedAt old.stage old bytes piece progress new
    → (more : List VolumeCount) × GoesOnWith old new more
fed_goes_on old new bytes piece progress fed = let w = fed_changes old new bytes piece progress fed in (w.more, w.goes_on)

-- the end of a connection counts nothing
pub cut_goes_on : (old new : Standing) (progress : Progress) → CutAt old.stage old progress new → GoesOnWith old new []
cut_goes_on old new progress cut =
    let w = cut_changes old new progress cut in let none : w.more ≡ [] = grind (arith, w.kept) in rw none at w.goes_on
