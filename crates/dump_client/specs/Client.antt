-- The parts of a client, and the effect of `next_request`. A count is the record of a volume that
-- was written whole: its number, its first block and its number of blocks. `told` holds for the
-- payloads that the client's source can have. Public contracts cite it.
use Rattle.std.specs.Prelude.{◌≡◌, ◌≢◌, ◌⊎◌, ℕ, ◌+◌, ◌<◌, Bool, true, false, List, [], ◌++◌, length, get_or, Option, Some, None, Result, Ok, Err}
use Rattle.rmt_wire.specs.Counted.{raised}
use Rattle.rmt_wire.specs.Request.{PlainRequest, IsTextOf, request_text}
use Rattle.rmt_wire.specs.Request.PlainRequest.{Write, Close as CloseDevice}
use Rattle.rmt_wire.specs.ReplyReader as reader
use Rattle.rmt_wire.specs.ReplyReader.{ReplyUnread}
use Rattle.dumpdates.specs.Stored.{plain_entry}
use Rattle.dumpdates.specs.declared.entry.Entry.{Entry}
use Rattle.dump_run.specs.Run.{PlainRun}
use Rattle.dump_run.specs.Label.{label}
use Rattle.dump_client.specs.Script.{request_of, wanted_of}
use Rattle.dump_client.specs.Listening.{IsReaderWaiting}
use Rattle.dump_run.specs.declared.fault.ResumeFault.{ResumeFault}
use Rattle.dump_run.specs.declared.fault.ResumeFault.TheVariants as refusals
use Rattle.dump_client.specs.Standing.{VolumeCount, Standing, standing, checkpoint_of, IsOver, Feeds}
use Rattle.dump_client.specs.declared.step.Step.{Step}
use Rattle.dump_client.specs.declared.step.Step.TheVariants.{Block, Close}
use Rattle.dump_client.specs.declared.stage.Progress.{Progress}
use Rattle.dump_client.specs.declared.stage.Stage.{Stage}
use Rattle.dump_client.specs.declared.stage.Stage.TheVariants.{ToSend, Waiting, Asking, Finished}
use Rattle.dump_run.specs.declared.blocks.SourceFailed.{SourceFailed}
use Rattle.dump_client.specs.declared.fault.AttemptFault.{AttemptFault}
use Rattle.dump_client.specs.declared.fault.AttemptFault.TheVariants.{SourceFault, OutOfMemory}

-- a client: its run, counts and stage; its source; its reader of replies; and how many more counts
-- it has room for
pub record ClientHeld (B : Type 0) : Type 0 where
  pub at : Standing
  pub source : B
  pub reader : reader.ReplyHeld
  pub room : ℕ

-- the bytes fed since the request that awaits its reply was sent; none in the other stages
abbrev pub HasFedAt : Stage → reader.ReplyHeld → List ℕ → Type 0
HasFedAt (ToSend step) reader bytes = ReplyUnread reader None [] × (bytes ≡ [])
HasFedAt (Waiting step) reader bytes = IsReaderWaiting (wanted_of step) reader bytes
HasFedAt stage reader bytes = bytes ≡ []

-- the bytes fed to the client `c` since the request that awaits its reply was sent; none in the
-- other stages
abbrev pub HasFed : {B : Type 0} → ClientHeld B → List ℕ → Type 0
HasFed c bytes = HasFedAt c.at.stage c.reader bytes

-- the bytes that are not yet answered in this stage: all of them if a reply is awaited, else none
abbrev pub unanswered : Stage → List ℕ → List ℕ
unanswered (Waiting step) bytes = bytes
unanswered stage bytes = []

-- a client was fed `piece` after `bytes`, which led to `middle`, and is now fed `next`
abbrev pub FeedsNext : Standing → List ℕ → List ℕ → List ℕ → Progress → Standing → Type 0
FeedsNext middle bytes piece next progress new = Feeds middle (unanswered middle.stage (bytes ++ piece)) next progress new

-- no attempt is under way at this stage
abbrev pub IsIdle : Stage → Type 0
IsIdle (ToSend step) = ⊥
IsIdle (Waiting step) = ⊥
IsIdle stage = Unit {0}

-- a client was made with this run and these counts, or an allocation failed
abbrev pub ResumesAs : {B : Type 0} → PlainRun → List VolumeCount → Result (ClientHeld B) ResumeFault → Type 0
ResumesAs {B} run counts (Ok c) = (c.at.run ≡ run) × (c.at.counts ≡ counts)
ResumesAs {B} run counts (Err fault) = fault ≡ refusals.OutOfMemory

-- the payload has the run's number of blocks, each of its size
abbrev pub IsPayload : PlainRun → List (List ℕ) → Type 0
IsPayload run blocks = (length blocks ≡ run.blocks) × ((n : ℕ) → n < run.blocks → length (get_or blocks n []) ≡ run.block_bytes)

-- the request is one of this step: a block has the run's size, and any other request is determined
-- by the run
abbrev pub IsShapedAs : PlainRun → ℕ × ℕ → Step → PlainRequest → Type 0
IsShapedAs run at (Block number) request = (block : List ℕ) × (request ≡ Write block) × (length block ≡ run.block_bytes)
IsShapedAs run at step request = request ≡ request_of run [] at.0 at.1 step

-- the request is that of this step; a block is the payload's, if the source's blocks are known
abbrev pub IsRequestOf : (List (List ℕ) → Type 0) → PlainRun → ℕ × ℕ → Step → PlainRequest → Type 0
IsRequestOf told run at step request =
    ((payload : List (List ℕ)) → told payload → request ≡ request_of run payload at.0 at.1 step) × IsShapedAs run at step request

-- the text of the request does not fit into `capacity` bytes after the first `len`
abbrev pub IsScarce : PlainRequest → ℕ → ℕ → Type 0
IsScarce request capacity len = capacity < len + length (request_text request)

-- the text of the step's request does not fit; the text of a block has the same length whatever its
-- bytes are
abbrev pub LacksRoom : PlainRun → ℕ × ℕ → Step → ℕ → ℕ → Type 0
LacksRoom run at step capacity len =
    (request : PlainRequest) × IsShapedAs run at step request × IsTextOf (request_text request) request × IsScarce request capacity len

-- why no request could be appended: a block could not be read, or there was no room
abbrev pub IsFaultAt : PlainRun → ℕ × ℕ → Step → AttemptFault → ℕ → ℕ → Type 0
IsFaultAt run at step fault capacity len =
    ((fault ≡ SourceFault) × ((number : ℕ) × (step ≡ Block number)))
    ⊎ ((fault ≡ OutOfMemory) × LacksRoom run at step capacity len)

-- the request is appended; or nothing is, because there is no room for it
abbrev pub IsRequestPushed : PlainRequest → ℕ → List ℕ → Result Unit AttemptFault → List ℕ → Type 0
IsRequestPushed request capacity before (Ok x) now = IsTextOf (request_text request) request × (now ≡ before ++ request_text request)
IsRequestPushed request capacity before (Err fault) now =
    (fault ≡ OutOfMemory) × IsTextOf (request_text request) request × IsScarce request capacity (length before) × (now ≡ before)

-- the write of the next volume's label
abbrev pub label_request : Standing → PlainRequest
label_request at = Write (label at.run (checkpoint_of at.counts).0 (checkpoint_of at.counts).1)

-- the request of a step is appended, or nothing for one of these reasons
abbrev pub AppendedBy : (List (List ℕ) → Type 0) → Standing → Step → ℕ → List ℕ → Result Unit AttemptFault → List ℕ → Type 0
AppendedBy told at step capacity before (Ok x) now =
    (request : PlainRequest) × IsRequestOf told at.run (checkpoint_of at.counts) step request × IsTextOf (request_text request) request
    × (now ≡ before ++ request_text request)
AppendedBy told at step capacity before (Err fault) now =
    IsFaultAt at.run (checkpoint_of at.counts) step fault capacity (length before) × (now ≡ before)

-- What `next_request` does at a stage. `old` and `new` are the client's states, `before` and `now`
-- the contents of `out`, and `capacity` the capacity of `out`. At the close a failed allocation is
-- no fault: the attempt is over.
abbrev pub NextRequestAt : Stage → (List (List ℕ) → Type 0) → Standing → ℕ → List ℕ → Result Bool AttemptFault → List ℕ → Standing → Type 0
NextRequestAt (ToSend step) told old capacity before (Ok true) now new =
    (request : PlainRequest) × IsRequestOf told old.run (checkpoint_of old.counts) step request × IsTextOf (request_text request) request
    × (now ≡ before ++ request_text request) × (new ≡ standing old.run old.counts (Waiting step))
NextRequestAt (ToSend step) told old capacity before (Ok false) now new =
    (step ≡ Close) × IsScarce CloseDevice capacity (length before) × (now ≡ before) × IsOver old.run old.counts new
NextRequestAt (ToSend step) told old capacity before (Err fault) now new =
    (step ≢ Close) × IsFaultAt old.run (checkpoint_of old.counts) step fault capacity (length before) × (now ≡ before)
    × (new ≡ standing old.run old.counts Asking)
NextRequestAt stage told old capacity before result now new = (result ≡ Ok false) × (now ≡ before) × (new ≡ old)

-- If the stage waits for the reply to the write of a block, the text ends with that block of the
-- payload, which has this size.
abbrev pub EndsWithBlock : List (List ℕ) → ℕ → Stage → List ℕ → Type 0
EndsWithBlock payload size (Waiting (Block number)) text =
    (front : List ℕ) × (text ≡ front ++ get_or payload number []) × (length (get_or payload number []) ≡ size)
EndsWithBlock payload size stage text = Unit {0}

-- the text ends with the block of the client's last request, if the payload is known
abbrev pub Carries : {B : Type 0} → (B → List (List ℕ) → Type 0) → ClientHeld B → List ℕ → Type 0
Carries holds c text = (payload : List (List ℕ)) → holds c.source payload → EndsWithBlock payload c.at.run.block_bytes c.at.stage text

-- whether the fault is that a read of the source failed
abbrev pub is_source_fault : {T : Type 0} → Result T AttemptFault → Bool
is_source_fault (Err SourceFault) = true
is_source_fault result = false

-- whether the read failed
abbrev pub has_failed : Result Unit SourceFailed → Bool
has_failed (Ok x) = false
has_failed (Err failed) = true

-- the write of the bytes that the read gave is appended
abbrev pub IsRequestGiven : {T : Type 0} → List ℕ → Result T AttemptFault → List ℕ → List ℕ → Type 0
IsRequestGiven before (Ok x) now given = now ≡ before ++ request_text (Write given)
IsRequestGiven before (Err fault) now given = Unit {0}

-- The source was read once, into room for a block. Its bytes were appended, or its failure is the
-- fault. If an allocation for the write failed, the source was not read.
abbrev pub IsBlockRead : {B T : Type 0} → ℕ → ℕ → (B → ℕ → List ℕ → Result Unit SourceFailed → B → List ℕ → Type 0)
    → B → List ℕ → Result T AttemptFault → B → List ℕ → Type 0
IsBlockRead {B} {T} number size reads old before (Err OutOfMemory) new now = new ≡ old
IsBlockRead {B} {T} number size reads old before result new now =
    (into : List ℕ) × (given : List ℕ) × (read : Result Unit SourceFailed) × (length into ≡ size) × reads old number into read new given
    × (is_source_fault result ≡ has_failed read) × IsRequestGiven before result now given

-- If the step is a block, the source is read once, for that block: its bytes are appended, or its
-- failure is the fault. If an allocation for the write failed, the source was not read. Any other
-- request leaves the source unchanged.
abbrev pub ReadBy : {B T : Type 0} → Step → ℕ → (B → ℕ → List ℕ → Result Unit SourceFailed → B → List ℕ → Type 0)
    → B → List ℕ → Result T AttemptFault → B → List ℕ → Type 0
ReadBy {B} {T} (Block number) size reads old before result new now = IsBlockRead number size reads old before result new now
ReadBy {B} {T} step size reads old before result new now = new ≡ old

-- If the stage is to send a block, the source is read once, for that block, unless an allocation
-- failed before. At any other step and in any other stage the source is unchanged.
abbrev pub ReadAt : {B : Type 0} → Stage → ℕ → (B → ℕ → List ℕ → Result Unit SourceFailed → B → List ℕ → Type 0)
    → B → List ℕ → Result Bool AttemptFault → B → List ℕ → Type 0
ReadAt {B} (ToSend step) size reads old before result new now = ReadBy step size reads old before result new now
ReadAt {B} stage size reads old before result new now = new ≡ old

-- the number of failed reads after a request: a failed read is counted, and nothing else
abbrev pub failures_after : {T : Type 0} → Result T AttemptFault → ℕ → ℕ
failures_after (Err SourceFault) failures = raised failures
failures_after result failures = failures

-- the dumpdates entry of a finished run; none in the other stages
abbrev pub TellsEntry : Stage → PlainRun → Option Entry → Type 0
TellsEntry Finished run (Some entry) = plain_entry entry ≡ record { name = run.name; level = run.level; date = run.date }
TellsEntry Finished run None = ⊥
TellsEntry stage run told = told ≡ None
