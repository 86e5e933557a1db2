-- The outcome of a piece, and the finding of the look, follow from all the bytes that came since the request.
use Rattle.dump_client.proofs.Attempt.{ReplyHeld, ◌≡◌, ℕ, Bool, true, false, List, [], ◌++◌, refl, subst, arith, Some, None, Result, Ok, Err, Option, ReplyParsesAs, PlainLabel, wanted_of, counted_label, IsReaderWaiting, HasLabel, is_more, ReceivesAt, FedAt, Makes, Becomes, HasFedAt}
use Rattle.dump_client.proofs.Attempt.{IsIdle, ReadBy, after_label, WireFault, PlainReply, Done, Data, Error, Reply, Standing, checkpoint_of, AttemptFault, SourceFault, OutOfMemory, Stage, Waiting, Progress, Step, Block, Look}
use Rattle.dump_run.specs.declared.blocks.SourceFailed.{SourceFailed}
use Rattle.dump_client.specs.Looking.{FindsLabel, found_label}

-- a client in no attempt was fed no bytes
pub idle_fed : (stage : Stage) (r : ReplyHeld) → IsIdle stage → (bytes : List ℕ) × HasFedAt stage r bytes
idle_fed stage r idle = ([], grind arith)

-- what comes of a piece where a reply is waited for, by what all the bytes are
pub fed_made : (old new : Standing) (step : Step) (bytes piece rest : List ℕ) (seen : Result (Option PlainReply) WireFault) (progress : Progress)
    → Waiting step ≡ old.stage → ReplyParsesAs (Some (wanted_of step)) (bytes ++ piece) seen rest → Makes old step (bytes ++ piece) seen rest progress new
    → FedAt old.stage old bytes piece progress new
fed_made old new step bytes piece rest seen progress at parses makes =
    subst (λ s. FedAt s old bytes piece progress new) at (seen, rest, parses, makes)

-- the bytes that were fed where a reply is waited for
pub waiting_at : (stage : Stage) (step : Step) (r : ReplyHeld) (bytes : List ℕ) → Waiting step ≡ stage → HasFedAt stage r bytes → IsReaderWaiting (wanted_of step) r bytes
waiting_at stage step r bytes at h = rw (← at) at h

-- what is read is the same for a result with a truth value and for one without
pub read_done : (B : Type 0) (size : ℕ) (reads : B → ℕ → List ℕ → Result Unit SourceFailed → B → List ℕ → Type 0) (step : Step) (old new : B) (before now : List ℕ)
    → ReadBy {B = B} {T = Unit {0}} step size reads old before (Ok tt) new now → ReadBy {B = B} {T = Bool} step size reads old before (Ok true) new now
read_done B size reads step old new before now h = grind (arith, h)

pub read_failed : (B : Type 0) (size : ℕ) (reads : B → ℕ → List ℕ → Result Unit SourceFailed → B → List ℕ → Type 0) (step : Step) (old new : B) (before now : List ℕ) (fault : AttemptFault)
    → ReadBy {B = B} {T = Unit {0}} step size reads old before (Err fault) new now → ReadBy {B = B} {T = Bool} step size reads old before (Err fault) new now
read_failed B size reads step old new before now fault h = grind (arith, h)

-- the label that is found with a reply: there is one only at the look, if the attempt goes on, and then no bytes follow the reply
reply_finds : (old new : Standing) (step : Step) (bytes rest : List ℕ) (reply : PlainReply) (more : Bool) (label : Option PlainLabel) (progress : Progress)
    → ReplyParsesAs (Some (wanted_of step)) bytes (Ok (Some reply)) rest → HasLabel reply label → more ≡ is_more rest
    → ReceivesAt old step (Reply reply) more progress new
    → FindsLabel (Waiting step) bytes progress (found_label step progress label)
reply_finds old new Look bytes rest (Data contents) more label progress parses has last h = by (counted_label old.run old.counts contents) more last h
  where
    by : (found : Option ℕ) (more : Bool) → more ≡ is_more rest → Becomes old (after_label old.run (checkpoint_of old.counts).1 found) more progress new
        → FindsLabel (Waiting Look) bytes progress (found_label Look progress label)
    by None false last h = let none : rest ≡ [] = grind arith in rw h.0 (contents, rw none at parses, has)
    by found more last h = grind (arith, h)
reply_finds old new step bytes rest reply more label progress parses has last h = grind (arith, h)

-- a reply, at the stage of the client
pub heard_finds : (old new : Standing) (step : Step) (bytes rest : List ℕ) (reply : PlainReply) (more : Bool) (label : Option PlainLabel) (progress : Progress)
    → Waiting step ≡ old.stage → ReplyParsesAs (Some (wanted_of step)) bytes (Ok (Some reply)) rest → HasLabel reply label → more ≡ is_more rest
    → ReceivesAt old step (Reply reply) more progress new → FindsLabel old.stage bytes progress (found_label step progress label)
heard_finds old new step bytes rest reply more label progress at parses has last h =
    subst (λ s. FindsLabel s bytes progress (found_label step progress label)) at
    (reply_finds old new step bytes rest reply more label progress parses has last h)
