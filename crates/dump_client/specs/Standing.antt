-- The state of a client as values, and how bytes and the end of a connection change it. A count is
-- the record of a volume that was written whole: its number, its first block and its number of
-- blocks. Public contracts cite it.
use Rattle.std.specs.Prelude.{◌≡◌, ◌≢◌, ◌⊎◌, ℕ, ◌-◌, Bool, true, false, List, [], ◌∷◌, ◌++◌, Option, Some, None, Result, Ok, Err}
use Rattle.rmt_wire.specs.Reply.{PlainReply}
use Rattle.rmt_wire.specs.ReplyParts.{ReplyParsesAs}
use Rattle.rmt_wire.specs.declared.fault.WireFault.{WireFault}
use Rattle.dump_run.specs.Run.{PlainRun}
pub use Rattle.dump_run.specs.Counts.{checkpoint_after, checkpoint_of}
use Rattle.dump_client.specs.Script.{wanted_of}
use Rattle.dump_client.specs.Position.{Covers, Received, outcome}
use Rattle.dump_client.specs.Position.Received.{Reply, Noise, End}
use Rattle.dump_client.specs.Listening.{is_more}
use Rattle.dump_client.specs.declared.step.Step.{Step}
use Rattle.dump_client.specs.declared.step.Step.TheVariants.{Open, Close}
use Rattle.dump_client.specs.declared.outcome.Outcome.{Outcome}
use Rattle.dump_client.specs.declared.outcome.Outcome.TheVariants.{GoesOn, Fails, Counted, Ended}
use Rattle.dump_client.specs.declared.stage.Stage.{Stage}
use Rattle.dump_client.specs.declared.stage.Stage.TheVariants.{Ready, ToSend, Waiting, Asking, Finished, Abandoned}
use Rattle.dump_client.specs.declared.stage.State.{State}
use Rattle.dump_client.specs.declared.stage.State.TheVariants as told
use Rattle.dump_client.specs.declared.stage.Progress.{Progress}
use Rattle.dump_client.specs.declared.stage.Progress.TheVariants as moved
pub use Rattle.dump_run.specs.declared.count.VolumeCount.{VolumeCount}
use Rattle.dump_client.specs.declared.fault.AttemptFault.TheVariants.{Botched}
use Rattle.dump_client.specs.declared.fault.StartFault.{StartFault}
use Rattle.dump_client.specs.declared.fault.StartFault.TheVariants.{WrongState, OutOfMemory}
use Rattle.dump_client.specs.declared.stage.Answer.{Answer}
use Rattle.dump_client.specs.declared.stage.Answer.TheVariants.{Retry, Abandon}

-- the state of a client: its run, the volumes counted so far, and its stage
pub record Standing : Type 0 where
  pub run : PlainRun
  pub counts : List VolumeCount
  pub stage : Stage

-- makes a `Standing`
abbrev pub standing : PlainRun → List VolumeCount → Stage → Standing
standing run counts stage = record { run = run; counts = counts; stage = stage }

-- the state of a client, and for how many more counts it has room
pub record LedgerState : Type 0 where
  pub at : Standing
  pub room : ℕ

-- the stage is in an attempt, at this step
abbrev pub IsAtStep : Stage → Step → Type 0
IsAtStep (ToSend other) step = step ≡ other
IsAtStep (Waiting other) step = step ≡ other
IsAtStep stage step = ⊥

-- the state that a caller of the client sees at this stage
abbrev pub state_of : Stage → State
state_of Ready = told.Ready
state_of (ToSend step) = told.ToSend
state_of (Waiting step) = told.Waiting
state_of Asking = told.Asking
state_of Finished = told.Finished
state_of Abandoned = told.Abandoned

-- the count of the volume at this checkpoint, which ends before block `next`
abbrev pub count_to : ℕ × ℕ → ℕ → VolumeCount
count_to at next = record { volume = at.0; first = at.1; count = next - at.1 }

-- the counts, and after them that of the next volume, which ends before block `next`
abbrev pub counted_to : List VolumeCount → ℕ → List VolumeCount
counted_to counts next = counts ++ count_to (checkpoint_of counts) next ∷ []

-- an attempt is over, and the client's state is `new`, with this run and these counts: the run is
-- finished if its counts cover it, and otherwise another attempt can start
abbrev pub IsOver : PlainRun → List VolumeCount → Standing → Type 0
IsOver run counts new =
    (Covers run counts × (new ≡ standing run counts Finished))
    ⊎ ((Covers run counts → ⊥) × (new ≡ standing run counts Ready))

-- The new state and the returned progress after an outcome. `more`: bytes follow the reply, and
-- nobody waits for them. Before the count the attempt fails then; after it the attempt is over.
abbrev pub Becomes : Standing → Outcome → Bool → Progress → Standing → Type 0
Becomes old (GoesOn step) false progress new = (progress ≡ moved.Send) × (new ≡ standing old.run old.counts (ToSend step))
Becomes old (GoesOn step) true progress new = (progress ≡ moved.Failed Botched) × (new ≡ standing old.run old.counts Asking)
Becomes old (Fails fault) more progress new = (progress ≡ moved.Failed fault) × (new ≡ standing old.run old.counts Asking)
Becomes old (Counted next) false progress new =
    (progress ≡ moved.Send) × (new ≡ standing old.run (counted_to old.counts next) (ToSend Close))
Becomes old (Counted next) true progress new = (progress ≡ moved.Ended) × IsOver old.run (counted_to old.counts next) new
Becomes old Ended more progress new = (progress ≡ moved.Ended) × IsOver old.run old.counts new

-- at this step the client receives `heard`, and is then in the state `new`; `more` says whether
-- bytes follow
abbrev pub ReceivesAt : Standing → Step → Received → Bool → Progress → Standing → Type 0
ReceivesAt old step heard more progress new =
    Becomes old (outcome old.run old.counts (checkpoint_of old.counts).1 step heard) more progress new

-- the client waits for the reply to this step, and these bytes came since: part of a reply, a reply
-- and more, or no reply
abbrev pub Makes : Standing → Step → List ℕ → Result (Option PlainReply) WireFault → List ℕ → Progress → Standing → Type 0
Makes old step bytes (Ok None) rest progress new = (progress ≡ moved.Waiting) × (new ≡ old)
Makes old step bytes (Ok (Some reply)) rest progress new = ReceivesAt old step (Reply reply) (is_more rest) progress new
Makes old step bytes (Err fault) rest progress new = ReceivesAt old step Noise false progress new

-- A piece is fed, after `bytes` since the request was sent. The result depends on all bytes
-- together, and not on how they are cut into pieces. Between attempts nothing happens.
abbrev pub FedAt : Stage → Standing → List ℕ → List ℕ → Progress → Standing → Type 0
FedAt (ToSend step) old bytes piece progress new =
    ((piece ≡ []) × (progress ≡ moved.Send) × (new ≡ old))
    ⊎ ((piece ≢ []) × ReceivesAt old step Noise false progress new)
FedAt (Waiting step) old bytes piece progress new =
    (seen : Result (Option PlainReply) WireFault) × (rest : List ℕ) × ReplyParsesAs (Some (wanted_of step)) (bytes ++ piece) seen rest
    × Makes old step (bytes ++ piece) seen rest progress new
FedAt stage old bytes piece progress new = (progress ≡ moved.Idle) × (new ≡ old)

-- a client in the state `old` that was fed `bytes` is fed `piece`, and is then in the state `new`
abbrev pub Feeds : Standing → List ℕ → List ℕ → Progress → Standing → Type 0
Feeds old bytes piece progress new = FedAt old.stage old bytes piece progress new

-- the client learns that its connection ended, and is then in the state `new`
abbrev pub CutAt : Stage → Standing → Progress → Standing → Type 0
CutAt (ToSend step) old progress new = ReceivesAt old step End false progress new
CutAt (Waiting step) old progress new = ReceivesAt old step End false progress new
CutAt stage old progress new = (progress ≡ moved.Idle) × (new ≡ old)

-- an attempt starts at the checkpoint; it is refused in each stage but `Ready`, in which it can be
-- refused only if there was no room for its count
abbrev pub StartedAt : Stage → Standing → ℕ → Result Unit StartFault → Standing → Type 0
StartedAt Ready old room (Ok x) new = new ≡ standing old.run old.counts (ToSend Open)
StartedAt Ready old room (Err OutOfMemory) new = (room ≡ 0) × (new ≡ old)
StartedAt Ready old room (Err WrongState) new = ⊥
StartedAt stage old room result new = (result ≡ Err WrongState) × (new ≡ old)

-- the stage after the operator's answer
abbrev pub stage_after : Answer → Stage
stage_after Retry = Ready
stage_after Abandon = Abandoned

-- the client takes the operator's answer if it waits for one, and in other stages refuses it
abbrev pub AnsweredAt : Stage → Standing → Answer → Result Unit StartFault → Standing → Type 0
AnsweredAt Asking old answer result new = (result ≡ Ok tt) × (new ≡ standing old.run old.counts (stage_after answer))
AnsweredAt stage old answer result new = (result ≡ Err WrongState) × (new ≡ old)
