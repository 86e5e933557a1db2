-- A reply completes a step, shows the reel's end, or fails the attempt: one table, and the facts at the close.
use Rattle.dump_client.proofs.Attempt.{◌≡◌, ℕ, ◌<◌, arith, List, ◌≢◌, nat_tests, label_bytes, Grants, outcome, after_step, after_reply, after_noise, after_end, PlainReply, PlainRun, VolumeCount, Outcome, Wish, AnyNumber, Number, NoRoom, OtherLabel, Anything, Received, Reply, Noise, End, Step, Open}
use Rattle.dump_client.proofs.Attempt.{Operation, Look, Label, Block, Close, Mark, GoesOn, Fails, Counted, Ended, AttemptFault, Botched, ConnectionEnded}

-- the reply that does a step
abbrev pub wish_of : PlainRun → Step → Wish
wish_of run Open = AnyNumber
wish_of run (Operation op) = Number 1
wish_of run Look = OtherLabel
wish_of run Label = Number label_bytes
wish_of run (Block number) = Number run.block_bytes
wish_of run Close = Anything

-- what is heard grants the wish, if it is a reply
abbrev pub Hears : PlainRun → List VolumeCount → Received → Wish → Type 0
Hears run counts (Reply reply) wish = Grants run counts wish reply
Hears run counts heard wish = Unit {0}

abbrev pub NotClose : Step → Type 0
NotClose Close = ⊥
NotClose step = Unit {0}

-- This holds of each step that is done, of each block without room, and of each failure.
pub record Table (run : PlainRun) (counts : List VolumeCount) (first : ℕ) (heard : Received) (P : Step → Outcome → Type 0) : Type 0 where
  pub done : (step : Step) → Hears run counts heard (wish_of run step) → P step (after_step run first step)
  pub full : (number : ℕ) → first < number → Hears run counts heard NoRoom → P (Block number) (GoesOn (Operation (Mark number)))
  pub fails : (step : Step) (fault : AttemptFault) → P step (Fails fault)

module _ (run : PlainRun) (counts : List VolumeCount) (first : ℕ) where
  -- what holds of each of these holds of all that can be heard
  pub led : (heard : Received) (P : Step → Outcome → Type 0) → Table run counts first heard P → (step : Step) → P step (outcome run counts first step heard)
  led heard P t step = grind (arith, nat_tests, t.done step, t.full, t.fails step)

  -- The other way round: a reply that does a step leads on, and one that shows the reel's end leads to the mark.
  pub does : (step : Step) (reply : PlainReply) → Grants run counts (wish_of run step) reply → after_reply run counts first step reply ≡ after_step run first step
  does step reply h = grind (arith, nat_tests)

  pub full_marks : (number : ℕ) → 0 < run.block_bytes → first < number → (reply : PlainReply)
      → Grants run counts NoRoom reply → after_reply run counts first (Block number) reply ≡ GoesOn (Operation (Mark number))
  full_marks number size h reply k = grind (arith, nat_tests)

  -- at the close whatever is heard ends the attempt
  pub close_ends : (heard : Received) → outcome run counts first Close heard ≡ Ended
  close_ends heard = grind arith

  -- before the close, noise and the end of the connection fail the attempt
  pub noise_fails : (step : Step) → step ≢ Close → outcome run counts first step Noise ≡ Fails Botched
  noise_fails step before = grind arith

  pub cut_fails : (step : Step) → step ≢ Close → outcome run counts first step End ≡ Fails ConnectionEnded
  cut_fails step before = grind arith

-- no request follows: the attempt fails, or is over
abbrev pub IsFinal : Outcome → Type 0
IsFinal (GoesOn step) = ⊥
IsFinal (Counted next) = ⊥
IsFinal outcome = Unit {0}

pub noise_final : (step : Step) → IsFinal (after_noise step)
noise_final step = grind arith

pub end_final : (step : Step) → IsFinal (after_end step)
end_final step = grind arith

-- the close is sent after the count alone
abbrev pub IsBefore : Outcome → Type 0
IsBefore (GoesOn step) = NotClose step
IsBefore outcome = Unit {0}

-- a reply leads to the close only with the count
pub reply_before : (run : PlainRun) (counts : List VolumeCount) (first : ℕ) (step : Step) (reply : PlainReply)
    → IsBefore (after_reply run counts first step reply)
reply_before run counts first step reply = grind (arith, nat_tests)
