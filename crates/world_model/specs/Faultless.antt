-- A world without faults, with a server of one drive: what every event preserves there, and how the
-- volumes are left. A count is the record of a volume that the client wrote whole to a reel. Here
-- `w` is a world, `k` the number of a connection, `l` a connection, `d` the attempt on a
-- connection, `b` a run that was begun, `s` the server's side of a connection, `c` the client, and
-- `x` a count. Public contracts cite it.
use Rattle.std.specs.Prelude.{◌≡◌, ◌≢◌, ◌⊎◌, ℕ, ◌+◌, ◌<◌, ◌≤◌, Bool, true, false, List, [], ◌∷◌, ◌++◌, length, map, take, drop, slice_get, Contains, Option, Some, None}
use Rattle.tape.specs.Tape.{PlainEntry, tape, offset_of}
use Rattle.tape.specs.declared.trouble.Trouble.TheVariants.{None as NoTrouble}
use Rattle.drives.specs.TapeLibrary.{KeptReel, kept_reel, ReelSlot, slot, drive_with, TapeLibrary, library, names_of}
use Rattle.rmt_wire.specs.Reply.{PlainReply, reply_text}
use Rattle.rmt_wire.specs.declared.errno.TheConstants.{ENOENT, ENOMEM, ENXIO}
use Rattle.rmt_server.specs.ServerState.{ServerConnection}
use Rattle.rmt_server.specs.Session.{plain_reel, PlainSession}
use Rattle.rmt_server.specs.Session.PlainSession.{Idle, Offline, Online}
use Rattle.rmt_server.specs.declared.access.Access.TheVariants.{Both}
use Rattle.dump_run.specs.Run.{PlainRun}
use Rattle.dump_run.specs.Label.{label_bytes}
use Rattle.dump_client.specs.Position.Received.{Reply}
use Rattle.dump_client.specs.Script.{wanted_of}
use Rattle.dump_client.specs.Standing.{Standing, ReceivesAt}
use Rattle.dump_client.specs.Client.{HasFedAt}
use Rattle.dump_client.specs.declared.step.Step.{Step}
use Rattle.dump_client.specs.declared.step.Step.TheVariants.{Open, Close}
use Rattle.dump_client.specs.declared.fault.AttemptFault.{AttemptFault}
use Rattle.dump_client.specs.declared.fault.AttemptFault.TheVariants.{Refused, ReelTooSmall}
use Rattle.dump_client.specs.declared.stage.Stage.{Stage}
use Rattle.dump_client.specs.declared.stage.Stage.TheVariants.{Ready, ToSend, Waiting, Asking, Finished, Abandoned}
use Rattle.dump_client.specs.declared.stage.Progress.{Progress}
use Rattle.dump_client.specs.declared.stage.Progress.TheVariants as moved
use Rattle.dump_run.specs.declared.count.VolumeCount.{VolumeCount}
use Rattle.world_model.specs.World.{World, Connection, AttemptState, Begun, WorldClient, Count, Opening, numbered}
use Rattle.world_model.specs.Events.{PlainEvent}
use Rattle.world_model.specs.Events.PlainEvent.{StartRun, Connect, Send, ToServer, Serve, ToClient}
use Rattle.world_model.specs.First.{PlainDriveSpec}
use Rattle.world_model.specs.Changes.{side_of, connection_of, opening}
use Rattle.world_model.specs.Rows.{StandsIn}
use Rattle.world_model.specs.Sending.{AreUnserved, AreCounted, FitsReplyReader}
use Rattle.world_model.specs.Standing.{ReelHolds}
use Rattle.world_model.specs.Written.{attempt_written}
use Rattle.world_model.specs.Written.{whole_volume}

-- An event without a fault: a run begins, the client connects or sends, or bytes reach the server
-- or the client. Or the server carries out a request, and no device call fails.
abbrev pub IsFaultless : PlainEvent → Type 0
IsFaultless (StartRun run payload) = Unit {0}
IsFaultless Connect = Unit {0}
IsFaultless (Send fails) = fails ≡ false
IsFaultless (ToServer k n) = Unit {0}
IsFaultless (Serve k trouble) = trouble ≡ NoTrouble
IsFaultless (ToClient k n) = Unit {0}
IsFaultless event = ⊥

-- all events of the list are without a fault
abbrev pub AreFaultless : List PlainEvent → Type 0
AreFaultless [] = Unit {0}
AreFaultless (event ∷ events) = IsFaultless event × AreFaultless events

-- how many bytes a label and one block take on a reel, with the mark after them
abbrev pub room_for_one : PlainRun → ℕ
room_for_one run = (label_bytes + 8) + (run.block_bytes + 8) + 4

-- Why an attempt can fail without a fault. The server has no such drive, no reel in it or no
-- memory. Or the reel is too small: a label and one block do not fit.
abbrev pub IsFaultlessFailure : ℕ → PlainRun → AttemptFault → Type 0
IsFaultlessFailure capacity run (Refused n) = (n ≡ ENOENT) ⊎ (n ≡ ENXIO) ⊎ (n ≡ ENOMEM)
IsFaultlessFailure capacity run ReelTooSmall = capacity < room_for_one run
IsFaultlessFailure capacity run fault = ⊥

-- If the last event made an attempt fail, the server has no such drive, no reel in it or no memory.
-- Or the reel is too small for a label and one block.
abbrev pub FailsFaultless : PlainDriveSpec → World → Type 0
FailsFaultless drive w =
    (volume : ℕ) (fault : AttemptFault) → w.failure ≡ Some (volume, fault)
    → (c : WorldClient) × (w.caller ≡ Some c) × IsFaultlessFailure drive.capacity c.at.run fault

-- the reel of the count holds the count's volume, and nothing else
pub record HoldsVolume (w : World) (x : Count) : Type 0 where
  pub begun : Begun
  pub begun_as : numbered w.begun x.run ≡ Some begun
  pub stands : ReelHolds w.server x.reel (whole_volume begun.run begun.payload x.volume x.first x.count)
  pub alone : (entries : List PlainEntry) → ReelHolds w.server x.reel entries
      → entries ≡ whole_volume begun.run begun.payload x.volume x.first x.count

-- whether the client is between attempts: ready or finished
abbrev pub is_between : Stage → Bool
is_between Ready = true
is_between Finished = true
is_between stage = false

-- The volumes are in order. If an attempt failed, `IsFaultlessFailure` has its cause. Count number
-- `i` is on reel number `i` of the first world's stack, which holds its volume. Between attempts,
-- the bin has these reels, in order.
pub record VolumesInOrder (drive : PlainDriveSpec) (w : World) : Type 0 where
  pub failure : FailsFaultless drive w
  pub reels : (i : ℕ) (x : Count) → slice_get w.counts i ≡ Some x → (slice_get drive.reels i ≡ Some x.reel) × HoldsVolume w x
  pub bin : StandsIn w (λ stage. is_between stage ≡ true) → names_of w.server.library.bin ≡ map (λ x. x.reel) w.counts

-- the part of a world that determines where its reels are
pub record Stock : Type 0 where
  pub library : TapeLibrary
  pub holders : List ℕ
  pub counts : List Count
  pub begun : List Begun
  pub opens : List Opening

-- the stock of a world
abbrev pub stock_of : World → Stock
stock_of w = record { library = w.server.library; holders = w.server.holders; counts = w.counts; begun = w.begun; opens = w.opens }

-- blank reels with these names
abbrev pub blanks : PlainDriveSpec → List (List ℕ) → List (ReelSlot KeptReel)
blanks drive names = map (λ name. slot name (Some (kept_reel [] drive.capacity))) names

-- the library of one drive, with this stack and this bin
abbrev pub one_drive : PlainDriveSpec → List (ReelSlot KeptReel) → List (ReelSlot KeptReel) → TapeLibrary
one_drive drive stack bin = library (drive_with drive.name stack ∷ []) bin

-- A count records that a run wrote a volume to a reel. Its volume has these entries, or none if the
-- run was never begun.
abbrev pub volume_by : Option Begun → Count → List PlainEntry
volume_by None x = []
volume_by (Some b) x = whole_volume b.run b.payload x.volume x.first x.count

-- The slot of the reel on which the counted volume `x` lies. The reel holds exactly that volume.
-- `begun` are the runs that were begun.
abbrev pub volume_slot : ℕ → List Begun → Count → ReelSlot KeptReel
volume_slot capacity begun x = slot x.reel (Some (kept_reel (volume_by (numbered begun x.run) x) capacity))

-- the reels of the counts, each with its volume, in order
abbrev pub volume_slots : PlainDriveSpec → Stock → List (ReelSlot KeptReel)
volume_slots drive t = map (volume_slot drive.capacity t.begun) t.counts

-- the names of the reels that were not counted, in their order
abbrev pub names_left : PlainDriveSpec → Stock → List (List ℕ)
names_left drive t = drop (length t.counts) drive.reels

-- No session has the drive open. The drive has the reels that were not counted, all blank, and the
-- bin has those that were.
pub record IsFree (drive : PlainDriveSpec) (t : Stock) : Type 0 where
  pub library : t.library ≡ one_drive drive (blanks drive (names_left drive t)) (volume_slots drive t)
  pub holders : t.holders ≡ 0 ∷ []

-- Connection `k` has the next reel in the drive. The reel holds what the attempt wrote and is
-- positioned at its end. From the label up to the mark, the reel has room for the mark.
pub record IsLatched (drive : PlainDriveSpec) (t : Stock) (k : ℕ) (b : Begun) (d : AttemptState) (session : PlainSession) : Type 0 where
  pub name : List ℕ
  pub others : List (List ℕ)
  pub next : names_left drive t ≡ name ∷ others
  pub library : t.library ≡ one_drive drive (slot name None ∷ blanks drive others) (volume_slots drive t)
  pub holders : t.holders ≡ k ∷ []
  pub online : session ≡ Online 0 Both (plain_reel (tape (attempt_written b.run b.payload d) []) drive.capacity)
  pub opened : Contains t.opens (opening k name)
  pub room : d.label ≡ true → d.mark ≡ false → offset_of (attempt_written b.run b.payload d) + 4 ≤ drive.capacity

-- The next reel is the last in the bin, and holds the attempt's volume, which is not counted yet.
pub record IsMoved (drive : PlainDriveSpec) (t : Stock) (k : ℕ) (b : Begun) (d : AttemptState) (session : PlainSession) : Type 0 where
  pub name : List ℕ
  pub others : List (List ℕ)
  pub next : names_left drive t ≡ name ∷ others
  pub library : t.library ≡ one_drive drive (blanks drive others) (volume_slots drive t
      ++ slot name (Some (kept_reel (whole_volume b.run b.payload d.volume d.first d.blocks) drive.capacity)) ∷ [])
  pub holders : t.holders ≡ k ∷ []
  pub offline : session ≡ Offline 0 Both
  pub opened : Contains t.opens (opening k name)

-- The attempt's volume is counted, and its session still has the drive open.
pub record IsOffline (drive : PlainDriveSpec) (t : Stock) (k : ℕ) (session : PlainSession) : Type 0 where
  pub library : t.library ≡ one_drive drive (blanks drive (names_left drive t)) (volume_slots drive t)
  pub holders : t.holders ≡ k ∷ []
  pub offline : session ≡ Offline 0 Both

-- the reels, holders and session before a step of the attempt of connection `k`
abbrev pub StandsBefore : Step → PlainDriveSpec → Stock → ℕ → Begun → AttemptState → PlainSession → Type 0
StandsBefore Open drive t k b d session = IsFree drive t × (session ≡ Idle)
StandsBefore Close drive t k b d session = IsOffline drive t k session
StandsBefore step drive t k b d session = IsLatched drive t k b d session

-- The reels, holders and session once a reply is heard. They are as before the step that the reply
-- leads to. If that is the close, the volume in the bin is not counted yet. If the attempt failed,
-- the cause is one of those above, and the bin has the counted reels. If the attempt ended, no
-- session has the drive open.
abbrev pub StandsThen : Progress → Stage → PlainDriveSpec → Stock → ℕ → Begun → AttemptState → PlainSession → Type 0
StandsThen moved.Send (ToSend Close) drive t k b d session = IsMoved drive t k b d session
StandsThen moved.Send (ToSend step) drive t k b d session = StandsBefore step drive t k b d session
StandsThen (moved.Failed fault) Asking drive t k b d session =
    IsFaultlessFailure drive.capacity b.run fault × (t.library.bin ≡ volume_slots drive t)
StandsThen moved.Ended Ready drive t k b d session = IsFree drive t
StandsThen moved.Ended Finished drive t k b d session = IsFree drive t
StandsThen progress stage drive t k b d session = ⊥

-- the counts that the client has once a reply is heard
abbrev pub CountsThen : Stage → List VolumeCount → AttemptState → List VolumeCount → Type 0
CountsThen (ToSend next) counts d new = AreCounted next counts d new
CountsThen stage counts d new = new ≡ counts

-- an attempt: its connection, its run, how far it got, and its session
pub record Attempt : Type 0 where
  pub connection : ℕ
  pub begun : Begun
  pub dump : AttemptState
  pub session : PlainSession

-- the attempt of run `b` on connection `k`, with this session
abbrev pub attempt_on : ℕ → Begun → AttemptState → PlainSession → Attempt
attempt_on k b d session = record { connection = k; begun = b; dump = d; session = session }

-- Whatever the reply to this step leads to, the reels, holders, session and counts fit it: the next
-- step, a failure for one of the causes above, or the end of the attempt.
abbrev pub Leads : PlainDriveSpec → Stock → Attempt → Standing → Step → PlainReply → Type 0
Leads drive t a old step reply =
    (progress : Progress) (new : Standing) → ReceivesAt old step (Reply reply) false progress new
    → StandsThen progress new.stage drive t a.connection a.begun a.dump a.session × CountsThen new.stage old.counts a.dump new.counts

-- the connection of the client's attempt, on which no fault occurred
pub record IsOwnConnection (w : World) (k : ℕ) (l : Connection) (d : AttemptState) (b : Begun) (s : ServerConnection) : Type 0 where
  pub own : w.own ≡ Some k
  pub there : connection_of w k ≡ Some l
  pub whole : l.cut ≡ false
  pub dump : l.dump ≡ Some d
  pub begun : numbered w.begun d.run ≡ Some b
  pub live : side_of w.server k ≡ Some s

-- the request of `step` was sent, and no reply is in transit to the client; the reels, holders and
-- session are as before the step
pub record IsStepUnanswered (drive : PlainDriveSpec) (w : World) (a : Attempt) (l : Connection) (step : Step) : Type 0 where
  pub back : l.back ≡ []
  pub stands : StandsBefore step drive (stock_of w) a.connection a.begun a.dump a.session

-- The request was carried out. The reply is what the client heard, together with what is in transit
-- to it. The reels of the counts come first in the bin.
pub record IsStepAnswered (drive : PlainDriveSpec) (w : World) (a : Attempt) (l : Connection) (c : WorldClient) (step : Step) : Type 0 where
  pub served : AreUnserved (side_of w.server a.connection) l.toward []
  pub fed : List ℕ
  pub has : HasFedAt (Waiting step) c.reader fed
  pub reply : PlainReply
  pub text : fed ++ l.back ≡ reply_text reply
  pub brief : FitsReplyReader (wanted_of step) reply
  pub bin : (more : List (ReelSlot KeptReel)) × (w.server.library.bin ≡ volume_slots drive (stock_of w) ++ more)
  pub leads : Leads drive (stock_of w) a c.at step reply

-- the reels, holders and session are as they have to be at this stage of the client
abbrev pub ReelsStandAt : Stage → PlainDriveSpec → World → WorldClient → Type 0
ReelsStandAt (ToSend step) drive w c =
    (k : ℕ) × (l : Connection) × (d : AttemptState) × (b : Begun) × (s : ServerConnection) × IsOwnConnection w k l d b s
    × StandsBefore step drive (stock_of w) k b d s.session
ReelsStandAt (Waiting step) drive w c =
    (k : ℕ) × (l : Connection) × (d : AttemptState) × (b : Begun) × (s : ServerConnection) × IsOwnConnection w k l d b s
    × (IsStepUnanswered drive w (attempt_on k b d s.session) l step ⊎ IsStepAnswered drive w (attempt_on k b d s.session) l c step)
ReelsStandAt Asking drive w c = w.server.library.bin ≡ volume_slots drive (stock_of w)
ReelsStandAt Abandoned drive w c = ⊥
ReelsStandAt stage drive w c = IsFree drive (stock_of w)

-- The reels, holders and session are as they have to be at the stage of the client. Without a
-- client, the drive is free.
abbrev pub StandsWith : Option WorldClient → PlainDriveSpec → World → Type 0
StandsWith None drive w = IsFree drive (stock_of w)
StandsWith (Some c) drive w = ReelsStandAt c.at.stage drive w c

-- Every event without a fault preserves this. Each connection is one of the client's, and nothing
-- is unserved on any but its own. The reels of the counts are the first of the first world's stack,
-- in order.
pub record IsFaultlessWorld (drive : PlainDriveSpec) (w : World) : Type 0 where
  pub clients : (j : ℕ) (l : Connection) → connection_of w j ≡ Some l → (d : AttemptState) × (l.dump ≡ Some d)
  pub still : (j : ℕ) (l : Connection) → connection_of w j ≡ Some l → w.own ≢ Some j → AreUnserved (side_of w.server j) l.toward []
  pub reels : map (λ (x : Count). x.reel) w.counts ≡ take (length w.counts) drive.reels
  pub stands : StandsWith w.caller drive w
  pub failure : FailsFaultless drive w
