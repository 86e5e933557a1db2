-- How the headline is proved: what was sent on each of the client's connections, and what the
-- server did with it. No statement of the headline uses these definitions. A count is the record of
-- a volume that the client wrote whole to a reel. The look is the read of the reel's first record,
-- before anything is written. Here `w` is a world, `k` the number of a connection, `l` a
-- connection, `d` the attempt on a connection, `b` a run that was begun, `s` the server's side of a
-- connection, and `c` the client. Public contracts depend on it (through Kept).
use Rattle.std.specs.Prelude.{◌≡◌, ◌⊎◌, ℕ, ◌+◌, ◌^◌, ◌<◌, ◌≤◌, Bool, true, false, List, [], ◌++◌, length, get_or, Option, Some, None}
use Rattle.rmt_wire.specs.declared.limits.TheConstants.{READER_LIMIT, RECORD_LIMIT}
use Rattle.rmt_wire.specs.Request.{PlainRequest, SpellsRequest, request_text}
use Rattle.rmt_wire.specs.Reply.{PlainReply, Wanted, SpellsReply, reply_text}
use Rattle.rmt_wire.specs.Reply.PlainReply.{Data}
use Rattle.rmt_wire.specs.RequestReader.{Unread}
use Rattle.rmt_server.specs.ServerState.{ServerConnection}
use Rattle.rmt_server.specs.Session.{PlainReel, PlainSession}
use Rattle.rmt_server.specs.Session.PlainSession.{Idle, Offline}
use Rattle.rmt_server.specs.declared.access.Access.TheVariants.{Both}
use Rattle.dump_run.specs.Run.{PlainRun, IsRun}
use Rattle.dump_client.specs.Script.{request_of, wanted_of}
use Rattle.dump_client.specs.Position.Received.{Reply}
use Rattle.dump_client.specs.Standing.{Standing, ReceivesAt, counted_to}
use Rattle.dump_client.specs.Lawful.{steps_before, attempt_at}
use Rattle.dump_client.specs.Client.{HasFedAt}
use Rattle.dump_client.specs.declared.step.Step.{Step}
use Rattle.dump_client.specs.declared.step.Step.TheVariants.{Open, Operation, Look, Label, Block, Close}
use Rattle.dump_client.specs.declared.step.TapeOp.TheVariants.{Rewind, RewindAgain, Mark, Unload}
use Rattle.dump_run.specs.declared.count.VolumeCount.{VolumeCount}
use Rattle.dump_client.specs.declared.stage.Progress.{Progress}
use Rattle.dump_client.specs.declared.stage.Stage.{Stage}
use Rattle.dump_client.specs.declared.stage.Stage.TheVariants.{ToSend, Waiting}
use Rattle.world_model.specs.World.{World, Connection, AttemptState, Begun, WorldClient, numbered}
use Rattle.world_model.specs.Changes.{side_of, connection_of}
use Rattle.world_model.specs.Standing.{IsOnlineWith}

-- whether the step comes after the label
abbrev pub is_labelled : Step → Bool
is_labelled Open = false
is_labelled (Operation Rewind) = false
is_labelled Look = false
is_labelled (Operation RewindAgain) = false
is_labelled Label = false
is_labelled step = true

-- whether the step comes after the mark
abbrev pub is_marked : Step → Bool
is_marked (Operation (Unload next)) = true
is_marked Close = true
is_marked step = false

-- before the step, `blocks` blocks of the volume that begins at `first` are written
abbrev pub VolumeHasBlocks : PlainRun → ℕ → Step → ℕ → Type 0
VolumeHasBlocks run first (Block number) blocks = (number ≡ first + blocks) × (number < run.blocks)
VolumeHasBlocks run first (Operation (Mark next)) blocks = next ≡ first + blocks
VolumeHasBlocks run first (Operation (Unload next)) blocks = next ≡ first + blocks
VolumeHasBlocks run first Close blocks = Unit {0}
VolumeHasBlocks run first step blocks = blocks ≡ 0

-- The session before a step. Before the open it has nothing open. Before the first rewind, the look
-- and the label, the reel is online at its beginning. Before the close, after MTOFFL, the reel is
-- in the bin. Before every other step the reel is online at any position.
abbrev pub IsSessionBefore : Step → PlainSession → Type 0
IsSessionBefore Open session = session ≡ Idle
IsSessionBefore (Operation Rewind) session = (reel : PlainReel) × IsOnlineWith session reel × (reel.tape.before ≡ [])
IsSessionBefore Look session = (reel : PlainReel) × IsOnlineWith session reel × (reel.tape.before ≡ [])
IsSessionBefore Label session = (reel : PlainReel) × IsOnlineWith session reel × (reel.tape.before ≡ [])
IsSessionBefore Close session = (drive : ℕ) × (session ≡ Offline drive Both)
IsSessionBefore step session = (reel : PlainReel) × IsOnlineWith session reel

-- Everything before this step of the attempt was done, and nothing else. Exactly the requests
-- before it were carried out, without a device fault, and the writes among them were accepted.
-- While the server's side is live, its session is as before this step (`IsSessionBefore`).
pub record HasDone (run : PlainRun) (o : Option ServerConnection) (d : AttemptState) (step : Step) : Type 0 where
  pub carried : d.carried ≡ length (steps_before run d.first (d.first + d.blocks) step)
  pub fault : d.fault ≡ false
  pub label : d.label ≡ is_labelled step
  pub blocks : VolumeHasBlocks run d.first step d.blocks
  pub within : d.first + d.blocks ≤ run.blocks
  pub mark : d.mark ≡ is_marked step
  pub stands : (s : ServerConnection) → o ≡ Some s → IsSessionBefore step s.session

-- These bytes reached the server's side or are in transit to it, and no request in them was carried
-- out. There are none once that side has ended.
abbrev pub AreUnserved : Option ServerConnection → List ℕ → List ℕ → Type 0
AreUnserved None way bytes = (way ≡ []) × (bytes ≡ [])
AreUnserved (Some s) way bytes = (reached : List ℕ) × Unread s.reached reached × (bytes ≡ reached ++ way)

-- the request that `step` sends in the attempt `d` of the run `b`
abbrev pub request_in : Begun → AttemptState → Step → PlainRequest
request_in b d step = request_of b.run b.payload d.volume d.first step

-- The request of this step was sent and not carried out. Either its whole text is unserved, or the
-- text was lost and nothing is unserved.
pub record IsPending (b : Begun) (o : Option ServerConnection) (way : List ℕ) (d : AttemptState) (step : Step) : Type 0 where
  pub done : HasDone b.run o d step
  pub sent : d.sent ≡ d.carried + 1
  pub few : d.sent < 2 ^ 64
  pub spelled : SpellsRequest (request_text (request_in b d step)) (request_in b d step)
  pub unserved : AreUnserved o way (request_text (request_in b d step)) ⊎ AreUnserved o way []

-- everything that was sent was carried out
pub record IsConnectionSettled (o : Option ServerConnection) (way : List ℕ) (d : AttemptState) : Type 0 where
  pub sent : d.sent ≡ d.carried
  pub unserved : AreUnserved o way []

-- On a connection of the client's, everything that was sent was carried out, or everything but the
-- last request.
abbrev pub IsConnectionSent : List Begun → Option ServerConnection → Connection → AttemptState → Type 0
IsConnectionSent begun o l d =
    IsConnectionSettled o l.toward d
    ⊎ ((b : Begun) × (step : Step) × (numbered begun d.run ≡ Some b) × IsPending b o l.toward d step)

-- at the close, the volume is counted with the blocks that were written; before it, the counts stay
-- the same
abbrev pub AreCounted : Step → List VolumeCount → AttemptState → List VolumeCount → Type 0
AreCounted Close counts d new = new ≡ counted_to counts (d.first + d.blocks)
AreCounted step counts d new = new ≡ counts

-- The client continues with the step `next`, before which everything was done.
pub record GoesTo (run : PlainRun) (o : Option ServerConnection) (old : Standing) (d : AttemptState) (new : Standing) (next : Step) : Type 0 where
  pub done : HasDone run o d next
  pub same_run : new.run ≡ old.run
  pub counts : AreCounted next old.counts d new.counts

-- if the reply leads the client to another step, everything before that step was done
abbrev pub LeadsOn : PlainRun → Option ServerConnection → Standing → AttemptState → Step → PlainReply → Type 0
LeadsOn run o old d step reply =
    (progress : Progress) (new : Standing) (next : Step) → ReceivesAt old step (Reply reply) false progress new
    → new.stage ≡ ToSend next → GoesTo run o old d new next

-- The client's reader keeps a text whole if it is shorter than this many bytes. It keeps data up to
-- the limit of a reader, and only the first 255 bytes of an error's text.
abbrev pub whole_below : PlainReply → ℕ
whole_below (Data bytes) = READER_LIMIT
whole_below reply = 255

-- a reader that waits for `wanted` keeps this reply whole
pub record FitsReplyReader (wanted : Wanted) (reply : PlainReply) : Type 0 where
  pub spelled : SpellsReply (reply_text reply) reply wanted
  pub short : length (reply_text reply) < whole_below reply

-- The reply to this step is what the client heard, together with what is in transit to it. If the
-- reply was lost, these are no bytes.
abbrev pub IsStepReply : PlainRun → Option ServerConnection → Standing → AttemptState → Step → List ℕ → Type 0
IsStepReply run o at d step bytes =
    (bytes ≡ []) ⊎ ((reply : PlainReply) × (bytes ≡ reply_text reply) × FitsReplyReader (wanted_of step) reply
    × LeadsOn run o at d step reply)

-- the attempt `d` is the client's own: it is of the client's run, and of the volume that the client
-- is writing
pub record IsAttempt (begun : List Begun) (c : WorldClient) (d : AttemptState) (step : Step) (b : Begun) : Type 0 where
  pub begun_as : numbered begun d.run ≡ Some b
  pub run : b.run ≡ c.at.run
  pub number : d.run ≡ c.number
  pub volume : d.volume ≡ (attempt_at step c.at.counts).0
  pub first : d.first ≡ (attempt_at step c.at.counts).1

-- the client is about to send the request of this step, and it has heard nothing since the last
-- reply
pub record IsItsTurn (b : Begun) (o : Option ServerConnection) (l : Connection) (c : WorldClient) (d : AttemptState) (step : Step) : Type 0 where
  pub done : HasDone b.run o d step
  pub settled : IsConnectionSettled o l.toward d
  pub back : l.back ≡ []
  pub fed : HasFedAt (ToSend step) c.reader []

-- the request of this step was sent, and not carried out
pub record IsStepAsked (b : Begun) (o : Option ServerConnection) (l : Connection) (c : WorldClient) (d : AttemptState) (step : Step) : Type 0 where
  pub pending : IsPending b o l.toward d step
  pub back : l.back ≡ []
  pub fed : HasFedAt (Waiting step) c.reader []

-- the request of this step was carried out
pub record IsStepReplied (b : Begun) (o : Option ServerConnection) (l : Connection) (c : WorldClient) (d : AttemptState) (step : Step) : Type 0 where
  pub settled : IsConnectionSettled o l.toward d
  pub fed : List ℕ
  pub has : HasFedAt (Waiting step) c.reader fed
  pub reply : IsStepReply b.run o c.at d step (fed ++ l.back)

-- facts about the client's own connection, by the client's stage
abbrev pub IsConnectionToldAt : Stage → List Begun → Option ServerConnection → Connection → WorldClient → AttemptState → Type 0
IsConnectionToldAt (ToSend step) begun o l c d = (b : Begun) × IsAttempt begun c d step b × IsItsTurn b o l c d step
IsConnectionToldAt (Waiting step) begun o l c d =
    (b : Begun) × IsAttempt begun c d step b × (IsStepAsked b o l c d step ⊎ IsStepReplied b o l c d step)
IsConnectionToldAt stage begun o l c d = Unit {0}

-- what holds of each of the client's connections; nothing is required of a stranger's
pub record IsConnectionTold (w : World) (k : ℕ) (o : Option ServerConnection) (l : Connection) : Type 0 where
  pub sent : (d : AttemptState) → l.dump ≡ Some d → IsConnectionSent w.begun o l d
  pub own : (d : AttemptState) (c : WorldClient) → l.dump ≡ Some d → w.own ≡ Some k → w.caller ≡ Some c → IsConnectionToldAt c.at.stage w.begun o l c d

-- The run is within its limits, and each block of the payload fits a record. The payload has as
-- many blocks as the run, each of the run's block size.
pub record IsGood (b : Begun) : Type 0 where
  pub run : IsRun b.run
  pub blocks : (n : ℕ) → length (get_or b.payload n []) ≤ RECORD_LIMIT
  pub many : length b.payload ≡ b.run.blocks
  pub whole : (i : ℕ) → i < b.run.blocks → length (get_or b.payload i []) ≡ b.run.block_bytes

-- Each run that was begun is good, and `IsConnectionTold` holds of each connection.
pub record AreTold (w : World) : Type 0 where
  pub good : (n : ℕ) (b : Begun) → numbered w.begun n ≡ Some b → IsGood b
  pub each : (k : ℕ) (l : Connection) → connection_of w k ≡ Some l → IsConnectionTold w k (side_of w.server k) l
