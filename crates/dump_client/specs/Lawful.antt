-- The properties of every client, and its position in an attempt. A count is the record of a volume
-- that was written whole: its number, its first block and its number of blocks. The look is the
-- read of the reel's first record, before anything is written. Public contracts cite it.
use Rattle.std.specs.Prelude.{◌≡◌, ◌⊎◌, ℕ, zero, suc, ◌-◌, ◌<◌, ◌≤◌, if◌then◌else◌, nat_lt, List, [], ◌∷◌, ◌++◌, length, map, take, Contains}
use Rattle.rmt_wire.specs.Request.{PlainRequest}
use Rattle.rmt_wire.specs.Request.PlainRequest.{Op}
use Rattle.rmt_wire.specs.Reply.{PlainReply}
use Rattle.rmt_wire.specs.declared.mtio.TheConstants.{MTOFFL}
use Rattle.dump_run.specs.Run.{PlainRun, IsRun}
pub use Rattle.dump_run.specs.Counts.{AreVolumes}
use Rattle.dump_client.specs.Script.{IsCount, request_of}
use Rattle.dump_client.specs.Position.{Covers, Position, CountsVolume, after_reply}
use Rattle.dump_client.specs.Standing.{Standing, checkpoint_of, counted_to}
use Rattle.dump_client.specs.declared.step.Step.{Step}
use Rattle.dump_client.specs.declared.step.Step.TheVariants.{Open, Operation, Look, Label, Block, Close}
use Rattle.dump_client.specs.declared.step.TapeOp.{TapeOp}
use Rattle.dump_client.specs.declared.step.TapeOp.TheVariants.{Rewind, RewindAgain, Mark, Unload}
use Rattle.dump_client.specs.declared.outcome.Outcome.{Outcome}
use Rattle.dump_client.specs.declared.outcome.Outcome.TheVariants.{GoesOn, Fails, Counted, Ended}
use Rattle.dump_client.specs.declared.stage.Stage.{Stage}
use Rattle.dump_client.specs.declared.stage.Stage.TheVariants.{ToSend, Waiting, Finished}
use Rattle.dump_run.specs.declared.count.VolumeCount.{VolumeCount}

-- the run is not finished: no volume is counted yet, or the counts end before the last block; so a
-- run of 0 blocks is finished once its only volume is counted
abbrev pub IsUnfinishedRun : PlainRun → List VolumeCount → Type 0
IsUnfinishedRun run counts = (counts ≡ []) ⊎ ((checkpoint_of counts).1 < run.blocks)

-- the volume at the checkpoint can end before block `next`
abbrev pub CanVolumeEnd : PlainRun → List VolumeCount → ℕ → Type 0
CanVolumeEnd run counts next = ((checkpoint_of counts).1 ≤ next) × IsCount run (checkpoint_of counts).1 (next - (checkpoint_of counts).1)

-- if the operation is the mark or MTOFFL, the volume can end before the block that it carries
abbrev pub OpFits : PlainRun → List VolumeCount → TapeOp → Type 0
OpFits run counts (Mark next) = CanVolumeEnd run counts next
OpFits run counts (Unload next) = CanVolumeEnd run counts next
OpFits run counts op = Unit {0}

-- the step is one of the volume at the checkpoint; the close comes after a count
abbrev pub StepFits : PlainRun → List VolumeCount → Step → Type 0
StepFits run counts (Operation op) = IsUnfinishedRun run counts × OpFits run counts op
StepFits run counts (Block number) = IsUnfinishedRun run counts × ((checkpoint_of counts).1 ≤ number) × (number < run.blocks)
StepFits run counts Close = 0 < length counts
StepFits run counts step = IsUnfinishedRun run counts

-- the stage fits the counts: in an attempt its step does; a finished run is covered, and any other
-- is not
abbrev pub StageFits : PlainRun → List VolumeCount → Stage → Type 0
StageFits run counts (ToSend step) = StepFits run counts step
StageFits run counts (Waiting step) = StepFits run counts step
StageFits run counts Finished = Covers run counts
StageFits run counts stage = IsUnfinishedRun run counts

-- a lawful client: its run is within its limits, its counts are volumes of the run in order, and
-- its stage fits them
pub record IsLawful (s : Standing) : Type 0 where
  pub run : IsRun s.run
  pub counts : AreVolumes s.run 1 0 s.counts
  pub stage : StageFits s.run s.counts s.stage

-- in an attempt there is room for its count, until the volume is counted
abbrev pub RoomFits : Stage → ℕ → Type 0
RoomFits (ToSend Close) room = Unit {0}
RoomFits (ToSend step) room = 0 < room
RoomFits (Waiting Close) room = Unit {0}
RoomFits (Waiting step) room = 0 < room
RoomFits stage room = Unit {0}

-- the outcome fits the run, the counts and the room for more counts, so the client can go on from
-- it
abbrev pub OutcomeFits : PlainRun → List VolumeCount → ℕ → Outcome → Type 0
OutcomeFits run counts room (GoesOn step) = IsUnfinishedRun run counts × StepFits run counts step × (0 < room)
OutcomeFits run counts room (Fails fault) = IsUnfinishedRun run counts
OutcomeFits run counts room (Counted next) = StepFits run counts (Operation (Unload next)) × (0 < room)
OutcomeFits run counts room Ended = 0 < length counts

-- the steps that write `count` blocks, beginning with this one
abbrev pub blocks_from : ℕ → ℕ → List Step
blocks_from first zero = []
blocks_from first (suc count) = Block first ∷ blocks_from (suc first) count

-- the steps before a block: the open, the look at the first record between two rewinds, the label,
-- and the blocks before it
abbrev pub steps_to_block : ℕ → ℕ → List Step
steps_to_block first number =
    Open ∷ Operation Rewind ∷ Look ∷ Operation RewindAgain ∷ Label ∷ blocks_from first (number - first)

-- the steps before a mark: those before block `next`, and the refused write of that block, if it
-- exists
abbrev pub steps_to : PlainRun → ℕ → ℕ → List Step
steps_to run first next = steps_to_block first next ++ (if nat_lt next run.blocks then Block next ∷ [] else [])

-- the steps before a step of the volume that begins at `first`; before a close, the volume ended
-- before block `next`
abbrev pub steps_before : PlainRun → ℕ → ℕ → Step → List Step
steps_before run first next Open = []
steps_before run first next (Operation Rewind) = Open ∷ []
steps_before run first next Look = Open ∷ Operation Rewind ∷ []
steps_before run first next (Operation RewindAgain) = Open ∷ Operation Rewind ∷ Look ∷ []
steps_before run first next Label = Open ∷ Operation Rewind ∷ Look ∷ Operation RewindAgain ∷ []
steps_before run first next (Block number) = steps_to_block first number
steps_before run first next (Operation (Mark end)) = steps_to run first end
steps_before run first next (Operation (Unload end)) = steps_to run first end ++ Operation (Mark end) ∷ []
steps_before run first next Close = steps_to run first next ++ Operation (Mark next) ∷ Operation (Unload next) ∷ []

-- the counts when the attempt began: at the close the last count is the attempt's own
abbrev pub counts_before : Step → List VolumeCount → List VolumeCount
counts_before Close counts = take (length counts - 1) counts
counts_before step counts = counts

-- the volume and the first block of the attempt
abbrev pub attempt_at : Step → List VolumeCount → ℕ × ℕ
attempt_at step counts = checkpoint_of (counts_before step counts)

-- the requests that were sent before a step, computed from the client's present counts
abbrev pub sent_before : PlainRun → List (List ℕ) → List VolumeCount → Step → List PlainRequest
sent_before run payload counts step =
    map (request_of run payload (attempt_at step counts).0 (attempt_at step counts).1)
    (steps_before run (attempt_at step counts).1 (checkpoint_of counts).1 step)

-- the request of a step of the attempt
abbrev pub attempt_request : PlainRun → List (List ℕ) → List VolumeCount → Step → PlainRequest
attempt_request run payload counts step = request_of run payload (attempt_at step counts).0 (attempt_at step counts).1 step

-- the requests that were sent before a step, then the request of the step
abbrev pub sent_with : PlainRun → List (List ℕ) → List VolumeCount → Step → List PlainRequest
sent_with run payload counts step = sent_before run payload counts step ++ attempt_request run payload counts step ∷ []

-- Each step has the same request, whether the volume and its first block are those after all of
-- `counts` or those at which the attempt began.
abbrev pub AsksAtCheckpoint : PlainRun → List (List ℕ) → List VolumeCount → Type 0
AsksAtCheckpoint run payload counts =
    (step : Step) → request_of run payload (checkpoint_of counts).0 (checkpoint_of counts).1 step ≡ attempt_request run payload counts step

-- If a reply to a step leads to a next step, one more request was sent: that of the step.
abbrev pub SendsNext : PlainRun → List (List ℕ) → List VolumeCount → Type 0
SendsNext run payload counts =
    (step next : Step) (reply : PlainReply) → StepFits run counts step
    → after_reply run counts (checkpoint_of counts).1 step reply ≡ GoesOn next
    → sent_before run payload counts next ≡ sent_with run payload counts step

-- If a reply to a step counts the volume, up to block `end`, one more request was sent before the
-- close: that of the step.
abbrev pub SendsLast : PlainRun → List (List ℕ) → List VolumeCount → Type 0
SendsLast run payload counts =
    (step : Step) (end : ℕ) (reply : PlainReply) → StepFits run counts step
    → after_reply run counts (checkpoint_of counts).1 step reply ≡ Counted end
    → sent_before run payload (counted_to counts end) Close ≡ sent_with run payload counts step

-- At the close, the volume of the attempt is counted, and is the last of `counts`. Before the
-- close, no reply to MTOFFL has come.
abbrev pub CountsAt : PlainRun → List (List ℕ) → List VolumeCount → Step → ℕ → List PlainRequest → ℕ → Type 0
CountsAt run payload counts Close count sent got =
    CountsVolume run payload (attempt_at Close counts).0 (attempt_at Close counts).1 count sent got
    × (counts ≡ counts_before Close counts
    ++ record { volume = (attempt_at Close counts).0; first = (attempt_at Close counts).1; count = count } ∷ [])
CountsAt run payload counts step count sent got = Contains (take got sent) (Op MTOFFL 1) → ⊥

-- the client is at a position of the attempt's volume
abbrev pub StandsAtStep : PlainRun → List (List ℕ) → List VolumeCount → Step → List PlainRequest → ℕ → Type 0
StandsAtStep run payload counts step sent got =
    (count : ℕ) × Position run payload (attempt_at step counts).0 (attempt_at step counts).1 count sent got
    × CountsAt run payload counts step count sent got

-- The client's state determines which requests were sent and how many wanted replies came. All
-- before its step were sent and answered. If a reply is awaited, the step's own request was sent
-- too.
abbrev pub StandsAt : PlainRun → List (List ℕ) → List VolumeCount → Stage → Type 0
StandsAt run payload counts (ToSend step) =
    StandsAtStep run payload counts step (sent_before run payload counts step) (length (sent_before run payload counts step))
StandsAt run payload counts (Waiting step) =
    StandsAtStep run payload counts step (sent_with run payload counts step)
    (length (sent_before run payload counts step))
StandsAt run payload counts stage = Unit {0}
