-- The effect of a turn of the server on a connection, and the reel that it opened for writing or
-- wrote on. No public contract needs it.
use Rattle.std.specs.Prelude.{◌≡◌, ℕ, ◌<◌, ◌==◌, Bool, true, false, not, ◌||◌, if◌then◌else◌, List, ◌++◌, length, Contains, option_map, Option, Some, None}
use Rattle.std.specs.Option.{option_to_list}
use Rattle.rmt_wire.specs.Request.{PlainRequest}
use Rattle.rmt_wire.specs.Reply.{PlainReply}
use Rattle.rmt_wire.specs.declared.errno.TheConstants.{EBADF, EACCES}
use Rattle.tape.specs.declared.trouble.Trouble.{Trouble}
use Rattle.drives.specs.TapeLibrary.{TapeLibrary, drive_at}
use Rattle.rmt_server.specs.Session.{PlainReel, PlainSession}
use Rattle.rmt_server.specs.Session.PlainSession.{Online}
use Rattle.rmt_server.specs.declared.access.Access.{Access}
use Rattle.rmt_server.specs.ServerState.{ServerState, ServerConnection}
use Rattle.dump_run.specs.declared.count.VolumeCount.{VolumeCount}
use Rattle.world_host.specs.declared.turn.RequestKind.{RequestKind}
use Rattle.world_host.specs.declared.turn.RequestKind.TheVariants as asked
use Rattle.world_host.specs.declared.turn.Answered.{Answered}
use Rattle.world_host.specs.declared.turn.Answered.TheVariants as said
use Rattle.world_host.specs.declared.turn.Carried.{Carried}
use Rattle.world_host.specs.declared.turn.Turn.{Turn}
use Rattle.world_host.specs.declared.turn.Turn.TheVariants as turns
use Rattle.world_host.specs.Servers.{Hosted, hosted, side_at, ended}
use Rattle.world_host.specs.Turns.{carried_of, Carries, GivesNothing, GivesFault}
use Rattle.world_model.specs.World.{Connection}
use Rattle.world_model.specs.Standing.{HasReel}
use Rattle.world_model.specs.Changes.{answered, opening, without_server, first_name, writing}
use Rattle.tape_world.specs.Seen.{HistoryHeld, Rooms}

-- The effect of a turn of connection `k`: on the server, and on the connection, which `becomes`
-- describes.
abbrev pub TurnServes : Trouble → Hosted → ℕ → Turn → Hosted → ((Connection → Connection) → Type 0) → Type 0
TurnServes trouble old k turns.Nothing new becomes =
    ((s : ServerConnection) → side_at old.server.sides k ≡ Some s → GivesNothing s.reached) × (new ≡ old) × becomes (λ l. l)
TurnServes trouble old k (turns.Carried carried) new becomes =
    (s : ServerConnection) × (request : PlainRequest) × (reply : PlainReply) × (side_at old.server.sides k ≡ Some s)
    × Carries trouble old.server k s request reply new.server × (carried ≡ carried_of request reply) × becomes (answered request reply)
TurnServes trouble old k (turns.Broken fault) new becomes =
    (s : ServerConnection) × (side_at old.server.sides k ≡ Some s) × GivesFault s.reached fault
    × (new ≡ hosted (ended old.server k) old.ready) × becomes without_server

-- the name of the reel that the session has online, if it has one
abbrev pub name_online : TapeLibrary → PlainSession → Option (List ℕ)
name_online s (Online drive access reel) = Some (first_name (drive_at s drive).stack)
name_online s session = None

-- the name of the reel that the server's side has online, if it is live and has one
abbrev pub name_online_at : TapeLibrary → Option ServerConnection → Option (List ℕ)
name_online_at s None = None
name_online_at s (Some x) = name_online s x.session

-- if connection `k` has a reel online, its drive exists
abbrev pub IsOnlineIn : ServerState → ℕ → Type 0
IsOnlineIn h k =
    (s : ServerConnection) (drive : ℕ) (access : Access) (reel : PlainReel) → side_at h.sides k ≡ Some s → s.session ≡ Online drive access reel
    → drive < length h.library.drives

-- the name of the reel that a request of this kind opened for writing, if it did
abbrev pub name_opened_by : RequestKind → ServerState → ℕ → Option (List ℕ)
name_opened_by (asked.Open true) h k = name_online_at h.library (side_at h.sides k)
name_opened_by _ h k = None

-- the name of the reel that a turn opened for writing, if it did
abbrev pub opened_in : ServerState → ℕ → Turn → Option (List ℕ)
opened_in h k (turns.Carried c) = name_opened_by c.asked h k
opened_in h k turn = None

-- whether the request is to write a record or marks
abbrev pub is_to_write : RequestKind → Bool
is_to_write asked.Write = true
is_to_write asked.WriteDropped = true
is_to_write asked.Marks = true
is_to_write kind = false

-- whether the reply is that to a write at a device that is open for reading only: EBADF to a
-- record, EACCES to marks
abbrev pub is_barred : Answered → Bool
is_barred (said.Error n) = (n == EBADF) || (n == EACCES)
is_barred answer = false

-- whether this is a write by a session that had its device open for writing
abbrev pub is_write : Carried → Bool
is_write c = if is_to_write c.asked then not (is_barred c.answered) else false

-- the name of the reel that the request wrote on, if it did
abbrev pub name_written_by : Carried → ServerState → ℕ → Option (List ℕ)
name_written_by c h k = if is_write c then name_online_at h.library (side_at h.sides k) else None

-- the name of the reel that a turn wrote on, if it did
abbrev pub written_in : ServerState → ℕ → Turn → Option (List ℕ)
written_in h k (turns.Carried c) = name_written_by c h k
written_in h k turn = None

-- the name of each reel of the library is among `names`
pub record IsLibraryKnown (names : List (List ℕ)) (s : TapeLibrary) : Type 0 where
  pub each : (name : List ℕ) → HasReel s name → Contains names name

-- the history has room for everything that a turn may add
pub record HasRoom (rooms : Rooms) : Type 0 where
  pub opens : rooms.opens ≡ true
  pub lists : rooms.lists ≡ true
  pub writings : rooms.writings ≡ true

-- The turn of connection `k` was noted, when the client had this list. If it opened a reel for
-- writing, the opening and the list were added, and if it wrote on a reel, the writing was.
pub record IsNoted (old : HistoryHeld) (list : List VolumeCount) (h : ServerState) (k : ℕ) (turn : Turn) (new : HistoryHeld) : Type 0 where
  pub names : new.names ≡ old.names
  pub counts : new.counts ≡ old.counts
  pub opens : new.opens ≡ old.opens ++ option_to_list (option_map (opening k) (opened_in h k turn))
  pub lists : new.lists ≡ old.lists ++ option_to_list (option_map (λ reel. list) (opened_in h k turn))
  pub writings : new.writings ≡ old.writings ++ option_to_list (option_map (writing k (length old.opens)) (written_in h k turn))
  pub entered : new.entered ≡ old.entered
