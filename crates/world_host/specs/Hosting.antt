-- The state of a host in memory, and its invariant, which ties the drives to the sessions of the
-- connections. Plain data are the values that contracts use for what the code has in memory. No
-- public contract needs it.
use Rattle.std.specs.Prelude.{◌≡◌, ◌⊎◌, ℕ, ◌+◌, ◌<◌, Bool, true, false, List, [], length, map, option_map, Option, Some, None, MatchOption}
use Rattle.rmt_wire.specs.Request.{PlainRequest}
use Rattle.rmt_wire.specs.Reply.{PlainReply, reply_text}
use Rattle.rmt_wire.specs.RequestReader.{RequestHeld, Unread}
use Rattle.tape.specs.Trouble.{TroubledTape}
use Rattle.tape.specs.declared.trouble.Trouble.{Trouble}
use Rattle.tape.specs.declared.trouble.Trouble.TheVariants.{None as NoTrouble}
use Rattle.drives.specs.declared.table.DriveTable.{DriveTable}
use Rattle.drives.specs.declared.view.View.{View}
use Rattle.drives.specs.Holding.{HoldsJust}
use Rattle.drives.specs.Local.{Holders, IsHeldBy}
use Rattle.drives.specs.ListLibrary.{ListLibrary, library_of, IsLibrary, troubled_in}
use Rattle.rmt_server.specs.declared.session.session_state.Opened.{Opened}
use Rattle.rmt_server.specs.declared.session.session_state.SessionState.{SessionState}
use Rattle.rmt_server.specs.State.{state, reel_of, IsAt, KeepsDrives}
use Rattle.rmt_server.specs.Memory.{MemoryState, in_memory, session_seen, session_view_seen}
use Rattle.rmt_server.specs.TroubledServe.{TroubledServe, IsTroubled}
use Rattle.rmt_server.specs.ServerState.{ServerState, server, ServerConnection, side}
use Rattle.world_host.specs.declared.side.ServerConnection.{ServerConnection as RealServerConnection}
use Rattle.world_host.specs.declared.side.Next.{Next}
use Rattle.world_host.specs.declared.side.Next.TheVariants.{Nothing, Seat, Whole}
use Rattle.world_host.specs.declared.turn.Carried.{Carried}
use Rattle.world_host.specs.declared.turn.Turn.{Turn}
use Rattle.world_host.specs.declared.turn.Turn.TheVariants as turns
use Rattle.world_host.specs.Servers.{side_at}
use Rattle.world_host.specs.Lying.{AreInSlotsExcept, IsOnlineAt}
use Rattle.world_host.specs.Turns.{carried_of, sent_back, GivesNothing, GivesFault, GivesRequest}

-- the drives, with their reels in memory
abbrev pub MemoryDrives : Type 0
MemoryDrives = DriveTable Holders ListLibrary View TroubledTape

-- a seat, and what it has open
abbrev pub MemorySessionState : Type 0
MemorySessionState = SessionState View TroubledTape

-- a seat that has nothing open
abbrev pub idle_session_state : View → MemorySessionState
idle_session_state seat = record { seat = seat; opened = None }

-- the server's side of a connection, as plain data
abbrev pub seen_side : RealServerConnection → ServerConnection
seen_side s = side s.reader (session_seen s.session.opened)

-- the server, as plain data
abbrev pub server_of : MemoryDrives → List (Option RealServerConnection) → ServerState
server_of drives sides = server (library_of drives.stacks) drives.holds.numbers (map (option_map seen_side) sides)

-- whether nothing is made for the next connection
abbrev pub is_nothing : Next → Bool
is_nothing Nothing = true
is_nothing (Seat seat) = false
is_nothing (Whole s) = false

-- whether the server's side of the next connection is made
abbrev pub is_whole_side : Next → Bool
is_whole_side Nothing = false
is_whole_side (Seat seat) = false
is_whole_side (Whole s) = true

-- if only a seat is reserved, it holds no drive
abbrev pub IsIdle : Next → Type 0
IsIdle Nothing = Unit {0}
IsIdle (Seat seat) = HoldsJust seat None
IsIdle (Whole s) = Unit {0}

-- the server's side of a connection with this seat, which has read nothing and has nothing open
pub record IsFresh (seat : View) (s : RealServerConnection) : Type 0 where
  pub session : s.session ≡ idle_session_state seat
  pub reader : Unread s.reader []

-- a reserved seat became the server's side of a connection, or nothing changed
abbrev pub IsMade : Next → Next → Type 0
IsMade (Seat seat) next = (next ≡ Seat seat) ⊎ ((s : RealServerConnection) × (next ≡ Whole s) × IsFresh seat s)
IsMade old next = next ≡ old

-- no trouble is set for the open reel
abbrev pub IsUntroubled : Option (Opened TroubledTape) → Type 0
IsUntroubled opened = MatchOption (reel_of opened) (Unit {0}) (λ r. r.trouble ≡ NoTrouble)

-- The seat of the server's side of connection `k` has that number and belongs to these drives. Its
-- reader holds some unread bytes, perhaps none. No trouble is set for its open reel.
pub record IsLive (drives : MemoryDrives) (k : ℕ) (s : RealServerConnection) : Type 0 where
  pub at : IsAt in_memory (state drives s.session)
  pub number : s.session.seat.number ≡ k
  pub readable : (bytes : List ℕ) × Unread s.reader bytes
  pub untroubled : IsUntroubled s.session.opened

-- the seat has number `k`, belongs to these drives, and has nothing open
pub record IsIdleSession (drives : MemoryDrives) (k : ℕ) (session_state : MemorySessionState) : Type 0 where
  pub at : IsAt in_memory (state drives session_state)
  pub number : session_state.seat.number ≡ k
  pub idle : session_state.opened ≡ None

-- After `n` connections, nothing of the next one is made yet, or its seat, which has the next
-- number, or all of it.
abbrev pub IsNextWaiting : MemoryDrives → ℕ → Next → Type 0
IsNextWaiting drives n Nothing = drives.holds.last ≡ n
IsNextWaiting drives n (Seat seat) = (drives.holds.last ≡ n + 1) × IsIdleSession drives (n + 1) (idle_session_state seat)
IsNextWaiting drives n (Whole s) = (drives.holds.last ≡ n + 1) × IsIdleSession drives (n + 1) s.session × Unread s.reader []

-- Each drive that has a holder is held by a live server's side. No trouble is set, for the stacks
-- or for a reel. Each reel is in its slot, except those that a live server's side has online.
pub record IsHosting (drives : MemoryDrives) (sides : List (Option RealServerConnection)) (next : Next) : Type 0 where
  pub live : (k : ℕ) (s : RealServerConnection) → side_at sides k ≡ Some s → IsLive drives k s
  pub held : (d n : ℕ) → IsHeldBy drives.holds d n → 0 < n → (s : RealServerConnection) × (side_at sides n ≡ Some s)
  pub waiting : IsNextWaiting drives (length sides) next
  pub told : IsLibrary drives.stacks (library_of drives.stacks)
  pub paired : length drives.holds.numbers ≡ length drives.stacks.library.drives
  pub quiet : drives.stacks.trouble ≡ false
  pub lying : troubled_in drives.stacks.library ≡ 0
  pub tidy : AreInSlotsExcept (library_of drives.stacks) (IsOnlineAt (map (option_map seen_side) sides))

-- The seat belongs to these drives, no trouble is set, and no two reels have the same name.
pub record IsUntroubledAt (x : MemoryState) : Type 0 where
  pub at : IsAt in_memory x
  pub told : IsLibrary x.drives.stacks (library_of x.drives.stacks)
  pub untroubled : IsTroubled NoTrouble false x

-- One request was carried out, and all other seats hold what they held.
pub record IsCarried (trouble : Trouble) (old : MemoryState) (request : PlainRequest) (reply : PlainReply)
    (new : MemoryState) : Type 0 where
  pub served : TroubledServe trouble old.drives.holds.numbers old.seat.number (session_view_seen old) request reply
      (session_view_seen new) new.drives.holds.numbers
  pub untroubled : IsUntroubledAt new
  pub kept : KeepsDrives in_memory old new
  pub same_seats : new.drives.holds.last ≡ old.drives.holds.last

-- a session with its drives, its reader, and the bytes in transit to the peer
pub record SessionBack : Type 0 where
  pub reader : RequestHeld
  pub at : MemoryState
  pub back : List ℕ

-- the `SessionBack` with these parts
abbrev pub session_back : RequestHeld → MemoryState → List ℕ → SessionBack
session_back reader at back = record { reader = reader; at = at; back = back }

-- A request of a session was carried out, and its reply was sent unless it is lost.
abbrev pub CarriesBack : Trouble → Bool → MemoryState → List ℕ → PlainRequest → Carried → MemoryState → List ℕ → Type 0
CarriesBack trouble lost old back request carried new back' =
    (reply : PlainReply) × IsCarried trouble old request reply new × (carried ≡ carried_of request reply)
    × (back' ≡ sent_back lost back (reply_text reply))

-- one turn of a session: it does nothing, carries out one request, or finds a fault in the bytes
abbrev pub TurnsSession : Trouble → Bool → SessionBack → Turn → SessionBack → Type 0
TurnsSession trouble lost old turns.Nothing new =
    GivesNothing old.reader × (new.reader ≡ old.reader) × (new.at ≡ old.at) × (new.back ≡ old.back)
TurnsSession trouble lost old (turns.Carried carried) new =
    (request : PlainRequest) × (reply : PlainReply) × GivesRequest old.reader request new.reader
    × IsCarried trouble old.at request reply new.at
    × (carried ≡ carried_of request reply) × (new.back ≡ sent_back lost old.back (reply_text reply))
TurnsSession trouble lost old (turns.Broken fault) new =
    GivesFault old.reader fault × (new.reader ≡ old.reader) × (new.at ≡ old.at) × (new.back ≡ old.back)
