-- One turn of a connection: one request of the bytes that were pushed there, with its reply. Public
-- contracts cite it.
use Rattle.std.specs.Prelude.{◌≡◌, ℕ, ◌==◌, Bool, true, false, if◌then◌else◌, List, ◌++◌, Option, Some, None, Result, Ok, Err}
use Rattle.rmt_wire.specs.Request.{PlainRequest}
use Rattle.rmt_wire.specs.Request.PlainRequest.{Open, Write, WriteDropped, Op}
use Rattle.rmt_wire.specs.Reply.{PlainReply, reply_text}
use Rattle.rmt_wire.specs.Reply.PlainReply.{Done, Data, Error}
use Rattle.rmt_wire.specs.RequestParts.{ParsesAs}
use Rattle.rmt_wire.specs.RequestReader.{RequestHeld, Unread}
use Rattle.rmt_wire.specs.declared.fault.WireFault.{WireFault}
use Rattle.rmt_wire.specs.declared.mtio.TheConstants.{MTWEOF}
use Rattle.tape.specs.declared.trouble.Trouble.{Trouble}
use Rattle.drives.specs.TapeLibrary.{TapeLibrary}
use Rattle.rmt_server.specs.declared.access.Access.{Access}
use Rattle.rmt_server.specs.Access.{access_of, writes}
use Rattle.rmt_server.specs.Session.{PlainSession, session_view}
use Rattle.rmt_server.specs.TroubledServe.{TroubledServe}
use Rattle.rmt_server.specs.ServerState.{ServerState, server, ServerConnection, side}
use Rattle.world_host.specs.declared.turn.RequestKind.{RequestKind}
use Rattle.world_host.specs.declared.turn.RequestKind.TheVariants as asked
use Rattle.world_host.specs.declared.turn.Answered.{Answered}
use Rattle.world_host.specs.declared.turn.Answered.TheVariants as answered
use Rattle.world_host.specs.declared.turn.Carried.{Carried}
use Rattle.world_host.specs.declared.turn.Turn.{Turn}
use Rattle.world_host.specs.declared.turn.Turn.TheVariants as turns
use Rattle.world_host.specs.Servers.{Hosted, hosted, side_at, with_side_at, ended}

-- whether this access, if there is one, allows writing
abbrev pub writes_for : Option Access → Bool
writes_for None = false
writes_for (Some access) = writes access

-- the kind of a request: for an open, whether its mode allows writing; MTWEOF writes marks
abbrev pub asked_of : PlainRequest → RequestKind
asked_of (Open device mode) = asked.Open (writes_for (access_of mode))
asked_of (Write bytes) = asked.Write
asked_of (WriteDropped count) = asked.WriteDropped
asked_of (Op op count) = if op == MTWEOF then asked.Marks else asked.Other
asked_of request = asked.Other

-- the kind of a reply
abbrev pub answered_of : PlainReply → Answered
answered_of (Done n) = answered.Number n
answered_of (Data bytes) = answered.Data
answered_of (Error n text) = answered.Error n

-- the kinds of a request and its reply
abbrev pub carried_of : PlainRequest → PlainReply → Carried
carried_of request reply = record { asked = asked_of request; answered = answered_of reply }

-- the bytes in transit to the peer with the reply after them, or without it if it is lost
abbrev pub sent_back : Bool → List ℕ → List ℕ → List ℕ
sent_back true back text = back
sent_back false back text = back ++ text

-- the unread bytes contain neither a whole request nor a fault
abbrev pub GivesNothing : RequestHeld → Type 0
GivesNothing reached =
    (bytes rest : List ℕ) (found : Result (Option PlainRequest) WireFault) → Unread reached bytes → ParsesAs bytes found rest → found ≡ Ok None

-- the unread bytes begin with this fault
abbrev pub GivesFault : RequestHeld → WireFault → Type 0
GivesFault reached fault = (bytes rest : List ℕ) × Unread reached bytes × ParsesAs bytes (Err fault) rest

-- the unread bytes begin with this request, and `after` is the reader once it was read
abbrev pub GivesRequest : RequestHeld → PlainRequest → RequestHeld → Type 0
GivesRequest reached request after =
    (bytes rest : List ℕ) × Unread reached bytes × ParsesAs bytes (Ok (Some request)) rest × Unread after rest

-- The server's side of connection `k` carries out this request with this reply. If the request
-- makes a device call, the call meets the trouble.
pub record Carries (trouble : Trouble) (old : ServerState) (k : ℕ) (s : ServerConnection) (request : PlainRequest) (reply : PlainReply)
    (new : ServerState) : Type 0 where
  pub reached : RequestHeld
  pub library : TapeLibrary
  pub session : PlainSession
  pub holders : List ℕ
  pub given : GivesRequest s.reached request reached
  pub served : TroubledServe trouble old.holders k (session_view old.library s.session) request reply (session_view library session) holders
  pub after : new ≡ server library holders (with_side_at old.sides k (Some (side reached session)))

-- a host, and the bytes in transit to the peer of one connection
pub record HostBack : Type 0 where
  pub hosted : Hosted
  pub back : List ℕ

-- the `HostBack` with these parts
abbrev pub with_back : Hosted → List ℕ → HostBack
with_back h back = record { hosted = h; back = back }

-- The outcome of a turn of the live server's side of connection `k`. If it is a fault, `left` is
-- the host afterwards.
abbrev pub TurnsSide : Hosted → Trouble → Bool → HostBack → ℕ → ServerConnection → Turn → HostBack → Type 0
TurnsSide left trouble lost old k s turns.Nothing new =
    GivesNothing s.reached × (new.hosted ≡ old.hosted) × (new.back ≡ old.back)
TurnsSide left trouble lost old k s (turns.Carried carried) new =
    (request : PlainRequest) × (reply : PlainReply)
    × Carries trouble old.hosted.server k s request reply new.hosted.server × (new.hosted.ready ≡ old.hosted.ready)
    × (carried ≡ carried_of request reply) × (new.back ≡ sent_back lost old.back (reply_text reply))
TurnsSide left trouble lost old k s (turns.Broken fault) new =
    GivesFault s.reached fault × (new.hosted ≡ left) × (new.back ≡ old.back)

-- the outcome of a turn of connection `k`, whether or not the server's side is live
abbrev pub TurnsAt : Hosted → Trouble → Bool → HostBack → ℕ → Option ServerConnection → Turn → HostBack → Type 0
TurnsAt left trouble lost old k None turn new = (turn ≡ turns.Nothing) × (new.hosted ≡ old.hosted) × (new.back ≡ old.back)
TurnsAt left trouble lost old k (Some s) turn new = TurnsSide left trouble lost old k s turn new

-- One turn of connection `k`, with the bytes in transit to its peer before and after it. A fault
-- ends the server's side.
abbrev pub ServesAt : Trouble → Bool → Hosted → ℕ → List ℕ → Turn → Hosted → List ℕ → Type 0
ServesAt trouble lost old k back turn new back' =
    TurnsAt (hosted (ended old.server k) old.ready) trouble lost (with_back old back) k (side_at old.server.sides k) turn (with_back new back')
