-- The position of an attempt: what was sent, the replies that came, and what comes next. A count is
-- the record of a volume that was written whole: its number, its first block and its number of
-- blocks. The look is the read of the reel's first record, before anything is written. The kind of
-- a reply is a number or data. Public contracts cite it.
use Rattle.std.specs.Prelude.{◌≡◌, ◌⊎◌, ℕ, ◌+◌, ◌<◌, ◌≤◌, ◌==◌, if◌then◌else◌, nat_lt, List, [], ◌∷◌, ◌++◌, length, map, take, Contains, Option, Some, None}
use Rattle.rmt_wire.specs.Request.{PlainRequest}
use Rattle.rmt_wire.specs.Request.PlainRequest.{Op}
use Rattle.rmt_wire.specs.Reply.{PlainReply, AnswersTo, data_length}
use Rattle.rmt_wire.specs.Reply.PlainReply.{Done, Data, Error}
use Rattle.rmt_wire.specs.declared.errno.TheConstants.{ENOSPC}
use Rattle.rmt_wire.specs.declared.mtio.TheConstants.{MTOFFL}
use Rattle.dump_run.specs.Run.{PlainRun}
use Rattle.dump_run.specs.declared.count.VolumeCount.{VolumeCount}
pub use Rattle.dump_run.specs.Counts.{CoversFrom, Covers}
use Rattle.dump_run.specs.Label.{label, label_bytes}
use Rattle.dump_client.specs.Script.{Wish, Grants, IsCount, wanted_of, counted_label, script}
use Rattle.dump_client.specs.Script.Wish.{AnyNumber, Number, NoRoom, OtherLabel, Anything}
use Rattle.dump_client.specs.declared.step.Step.{Step}
use Rattle.dump_client.specs.declared.step.Step.TheVariants.{Open, Operation, Look, Label, Block, Close}
use Rattle.dump_client.specs.declared.step.TapeOp.{TapeOp}
use Rattle.dump_client.specs.declared.step.TapeOp.TheVariants.{Rewind, RewindAgain, Mark, Unload}
use Rattle.dump_client.specs.declared.outcome.Outcome.{Outcome}
use Rattle.dump_client.specs.declared.outcome.Outcome.TheVariants.{GoesOn, Fails, Counted, Ended}
use Rattle.dump_client.specs.declared.fault.AttemptFault.TheVariants.{Refused, Botched, ConnectionEnded, ShortWrite, ReelTooSmall, CountedReel}

-- The requests that were sent begin the script of a volume of `count` blocks, and `got` wanted
-- replies came. At most one request has no reply yet.
pub record Position (run : PlainRun) (payload : List (List ℕ)) (volume first count : ℕ) (sent : List PlainRequest) (got : ℕ) : Type 0 where
  pub counts : IsCount run first count
  pub unsent : List PlainRequest
  pub begins : map (λ p. p.0) (script run payload volume first count) ≡ sent ++ unsent
  pub answered : got ≤ length sent
  pub awaited : length sent ≤ got + 1

-- the volume is counted: the reply to MTOFFL is among those that came
pub record CountsVolume (run : PlainRun) (payload : List (List ℕ)) (volume first count : ℕ) (sent : List PlainRequest) (got : ℕ) : Type 0 where
  pub position : Position run payload volume first count sent got
  pub unloaded : Contains (take got sent) (Op MTOFFL 1)

-- what a client receives: a reply; bytes that are no reply or come while none is awaited; the end
-- of the connection
pub data Received : Type 0 where
  Reply : (reply : PlainReply) → Received
  Noise : Received
  End : Received

-- if the step is a block, it is one of the run
abbrev pub IsBelow : PlainRun → Step → Type 0
IsBelow run (Block number) = number < run.blocks
IsBelow run step = Unit {0}

-- the write of block `number`, or the mark if no block is left
abbrev pub block_or_mark : PlainRun → ℕ → Step
block_or_mark run number = if nat_lt number run.blocks then Block number else Operation (Mark number)

-- the outcome of an operation that was done; the reply to MTOFFL counts the volume, up to the first
-- block that is not written
abbrev pub after_done : TapeOp → Outcome
after_done Rewind = GoesOn Look
after_done RewindAgain = GoesOn Label
after_done (Mark next) = GoesOn (Operation (Unload next))
after_done (Unload next) = Counted next

-- the outcome of a step that was done: the next step, or the count after MTOFFL, or the end after
-- the close
abbrev pub after_step : PlainRun → ℕ → Step → Outcome
after_step run first Open = GoesOn (Operation Rewind)
after_step run first (Operation op) = after_done op
after_step run first Look = GoesOn (Operation RewindAgain)
after_step run first Label = GoesOn (block_or_mark run first)
after_step run first (Block number) = GoesOn (block_or_mark run (number + 1))
after_step run first Close = Ended

-- the outcome if there is no room for the label or a block: the end of the reel if a block was
-- written, else `ReelTooSmall`
abbrev pub at_end_of_reel : ℕ → Step → Outcome
at_end_of_reel first (Block number) = if nat_lt first number then GoesOn (Operation (Mark number)) else Fails ReelTooSmall
at_end_of_reel first step = Fails ReelTooSmall

-- the outcome if the reply to a write of `size` bytes is the number `n`
abbrev pub after_write : PlainRun → ℕ → Step → ℕ → ℕ → Outcome
after_write run first step size n =
    if n == size then after_step run first step
    else if n == 0 then at_end_of_reel first step
    else Fails ShortWrite

-- the outcome if the reply to an operation of count 1 is the number `n`
abbrev pub after_op : PlainRun → ℕ → Step → ℕ → Outcome
after_op run first step n = if n == 1 then after_step run first step else Fails Botched

-- the outcome if the reply to a step is a number
abbrev pub after_number : PlainRun → ℕ → Step → ℕ → Outcome
after_number run first Open n = after_step run first Open
after_number run first (Operation op) n = after_op run first (Operation op) n
after_number run first Look n = Fails Botched
after_number run first Label n = after_write run first Label label_bytes n
after_number run first (Block number) n = after_write run first (Block number) run.block_bytes n
after_number run first Close n = Ended

-- the outcome if the reply to the write of the label or a block is error `n`, in a volume that
-- begins at block `first`; with ENOSPC it is the end of the reel
abbrev pub after_refusal : ℕ → Step → ℕ → Outcome
after_refusal first step n = if n == ENOSPC then at_end_of_reel first step else Fails (Refused n)

-- The outcome if the reply to a step is error `n`. `first` is the first block of the attempt's
-- volume. An error fails the attempt, with two exceptions: ENOSPC in reply to a write is the end of
-- the reel, as `after_refusal` says, and any error in reply to the close ends the attempt.
abbrev pub after_error : ℕ → Step → ℕ → Outcome
after_error first Label n = after_refusal first Label n
after_error first (Block number) n = after_refusal first (Block number) n
after_error first Close n = Ended
after_error first step n = Fails (Refused n)

-- the outcome of bytes that are no reply, or that come while none is awaited; from the close on
-- nothing fails
abbrev pub after_noise : Step → Outcome
after_noise Close = Ended
after_noise step = Fails Botched

-- the outcome if the connection ends at this step
abbrev pub after_end : Step → Outcome
after_end Close = Ended
after_end step = Fails ConnectionEnded

-- the outcome of the look: the label of a counted volume fails the attempt
abbrev pub after_label : PlainRun → ℕ → Option ℕ → Outcome
after_label run first None = after_step run first Look
after_label run first (Some volume) = Fails (CountedReel volume)

-- the outcome of the bytes of a record in reply to a step: only the look waits for them
abbrev pub after_data : PlainRun → List VolumeCount → ℕ → Step → List ℕ → Outcome
after_data run counts first Look bytes = after_label run first (counted_label run counts bytes)
after_data run counts first step bytes = after_noise step

-- the outcome of a reply to a step, if these volumes of the run are counted
abbrev pub after_reply : PlainRun → List VolumeCount → ℕ → Step → PlainReply → Outcome
after_reply run counts first step (Done n) = after_number run first step n
after_reply run counts first step (Data bytes) = after_data run counts first step bytes
after_reply run counts first step (Error n text) = after_error first step n

-- the outcome of what a client receives at a step, whose request is to be sent or whose reply is
-- awaited
abbrev pub outcome : PlainRun → List VolumeCount → ℕ → Step → Received → Outcome
outcome run counts first step (Reply reply) = after_reply run counts first step reply
outcome run counts first step Noise = after_noise step
outcome run counts first step End = after_end step

-- the outcome of the wanted reply to `step`, if `following` is the next step; before the close the
-- volume is counted
abbrev pub wanted_outcome : Step → Step → Outcome
wanted_outcome Close (Operation (Unload next)) = Counted next
wanted_outcome following step = GoesOn following

-- each wanted reply leads to the next step, that to MTOFFL to the count, and the last one to the
-- end
abbrev pub RepliesFollow : PlainRun → List VolumeCount → ℕ → List (Step × Wish) → Type 0
RepliesFollow run counts first [] = Unit {0}
RepliesFollow run counts first (s ∷ []) =
    (reply : PlainReply) → Grants run counts s.1 reply → after_reply run counts first s.0 reply ≡ Ended
RepliesFollow run counts first (s ∷ t ∷ steps) =
    ((reply : PlainReply) → Grants run counts s.1 reply → after_reply run counts first s.0 reply ≡ wanted_outcome t.0 s.0)
    × RepliesFollow run counts first (t ∷ steps)

-- the replies that are wanted at a step; at a block also that there is no room, if one was written
-- before
abbrev pub IsWantedAt : PlainRun → List VolumeCount → ℕ → Step → PlainReply → Type 0
IsWantedAt run counts first Open reply = Grants run counts AnyNumber reply
IsWantedAt run counts first (Operation op) reply = Grants run counts (Number 1) reply
IsWantedAt run counts first Look reply = Grants run counts OtherLabel reply
IsWantedAt run counts first Label reply = Grants run counts (Number label_bytes) reply
IsWantedAt run counts first (Block number) reply =
    Grants run counts (Number run.block_bytes) reply ⊎ ((first < number) × Grants run counts NoRoom reply)
IsWantedAt run counts first Close reply = Grants run counts Anything reply

-- A reply that is wanted at a step, with no more bytes than a label, is of the kind that is awaited
-- there. The close accepts any reply.
abbrev pub CanBeHeard : PlainRun → List VolumeCount → ℕ → Step → PlainReply → Type 0
CanBeHeard run counts first Close reply = Unit {0}
CanBeHeard run counts first step reply =
    IsWantedAt run counts first step reply → data_length reply ≤ label_bytes → AnswersTo reply (wanted_of step)

-- the outcome is that the attempt fails
abbrev pub IsFailure : Outcome → Type 0
IsFailure (Fails fault) = Unit {0}
IsFailure outcome = ⊥

-- if this is the reply to the look, the attempt fails with `CountedReel` of that volume
abbrev pub FailsAsCounted : PlainRun → List VolumeCount → ℕ → ℕ → PlainReply → Type 0
FailsAsCounted run counts first volume reply = after_reply run counts first Look reply ≡ Fails (CountedReel volume)

-- the reply is the label of a counted volume
abbrev pub ShowsCounted : PlainRun → List VolumeCount → ℕ → PlainReply → Type 0
ShowsCounted run counts volume reply =
    (c : VolumeCount) × Contains counts c × (c.volume ≡ volume) × (reply ≡ Data (label run c.volume c.first))
