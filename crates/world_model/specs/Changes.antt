-- The parts of a world, and how an event changes one of them. A count is the record of a volume
-- that the client wrote whole to a reel. Public contracts cite it.
use Rattle.std.specs.Prelude.{◌≡◌, ℕ, zero, suc, ◌==◌, Bool, true, false, if◌then◌else◌, List, [], ◌∷◌, ◌++◌, length, map, option_and_then, option_map, Option, Some, None}
use Rattle.rmt_wire.specs.Counted.{raised}
use Rattle.rmt_wire.specs.Request.{PlainRequest}
use Rattle.rmt_wire.specs.Request.PlainRequest.{Open, Write, WriteDropped, Op}
use Rattle.rmt_wire.specs.Reply.{PlainReply, reply_text}
use Rattle.rmt_wire.specs.Reply.PlainReply.{Done, Data, Error}
use Rattle.rmt_wire.specs.RequestReader.{held}
use Rattle.rmt_wire.specs.declared.errno.TheConstants.{EIO}
use Rattle.rmt_wire.specs.declared.mtio.TheConstants.{MTWEOF}
use Rattle.drives.specs.TapeLibrary.{TapeLibrary, ReelSlot, drive_at}
use Rattle.rmt_server.specs.Access.{writes}
use Rattle.rmt_server.specs.Session.{PlainSession, closed_library}
use Rattle.rmt_server.specs.Session.PlainSession.{Idle, Online}
use Rattle.rmt_server.specs.TroubledServe.{drive_in, with_holder}
use Rattle.rmt_server.specs.ServerState.{ServerState, server, ServerConnection, side}
use Rattle.dump_client.specs.Standing.{Standing, checkpoint_of}
use Rattle.dump_run.specs.declared.count.VolumeCount.{VolumeCount}
use Rattle.dump_client.specs.declared.stage.Progress.{Progress}
use Rattle.dump_client.specs.declared.stage.Progress.TheVariants.{Failed, Ended}
use Rattle.world_model.specs.World.{World, Connection, AttemptState, WorldClient, Count, Opening, Writing, numbered, with_numbered}

-- the list with `f x` in place of the member of this number, which is `x`
abbrev pub changed_from : {X : Type 0} → (X → X) → List X → ℕ → Option X → List X
changed_from f xs n None = xs
changed_from f xs n (Some x) = with_numbered xs n (f x)

-- the list with the member of this number changed by `f`, if there is one
abbrev pub changed : {X : Type 0} → (X → X) → List X → ℕ → List X
changed f xs n = changed_from f xs n (numbered xs n)

-- the server's side of connection `k`, while it is live
abbrev pub side_of : ServerState → ℕ → Option ServerConnection
side_of h k = option_and_then (λ s. s) (numbered h.sides k)

-- connection `k`, if there is one
abbrev pub connection_of : World → ℕ → Option Connection
connection_of w k = numbered w.connections k

-- connection `k` is one of the client's, and `d` is the attempt on it
abbrev pub HasDump : World → ℕ → AttemptState → Type 0
HasDump w k d = (l : Connection) × (connection_of w k ≡ Some l) × (l.dump ≡ Some d)

-- the world after an event that made nothing fail
abbrev pub with_no_failure : World → World
with_no_failure w = record w { failure = None }

-- a connection on which nothing was sent
abbrev pub new_connection : Option AttemptState → Connection
new_connection dump = record { toward = []; back = []; cut = false; other = true; dump = dump }

-- the server with one more side, which has read nothing and has nothing open
abbrev pub with_side : ServerState → ServerState
with_side h = server h.library h.holders (h.sides ++ Some (side (held [] 0) Idle) ∷ [])

-- the world with a new connection, of this attempt or of a stranger
abbrev pub joined : World → Option AttemptState → World
joined w dump = record w { server = with_side w.server; connections = w.connections ++ new_connection dump ∷ [] }

-- the bytes in transit after more were sent, which are lost after a cut
abbrev pub sent_on : Bool → List ℕ → List ℕ → List ℕ
sent_on true way bytes = way
sent_on false way bytes = way ++ bytes

-- The peer left: the connection is cut, and what was in transit to the peer is lost.
abbrev pub without_peer : Connection → Connection
without_peer l = record l { back = []; cut = true; other = false }

-- The server's side ended: the connection is cut, and what was in transit to the server is lost.
abbrev pub without_server : Connection → Connection
without_server l = record l { toward = []; cut = true }

-- the peer of connection `k` left
abbrev pub other_left : World → ℕ → World
other_left w k = record w { connections = changed without_peer w.connections k }

-- the client left its own connection, which ends the attempt
abbrev pub given_up : World → ℕ → World
given_up w k = record (other_left w k) { own = None }

-- the server's side ended: what it had open is closed, and its drive has no holder
abbrev pub ended_from : ServerState → ℕ → Option ServerConnection → ServerState
ended_from h k None = h
ended_from h k (Some s) =
    server (closed_library h.library s.session) (with_holder (drive_in s.session) 0 h.holders) (with_numbered h.sides k None)

-- the server after its side of connection `k` ended
abbrev pub ended : ServerState → ℕ → ServerState
ended h k = ended_from h k (side_of h k)

-- the server after its sides of connections 1 to `k` ended
abbrev pub all_ended : ServerState → ℕ → ServerState
all_ended h zero = h
all_ended h (suc k) = ended (all_ended h k) (suc k)

-- the world after the server's side of connection `k` ended
abbrev pub ended_at : World → ℕ → World
ended_at w k = record w { server = ended w.server k; connections = changed without_server w.connections k }

-- the world after the server restarted: each server's side ended
abbrev pub restarted : World → World
restarted w = record w { server = all_ended w.server (length w.server.sides); connections = map without_server w.connections }

-- the name of the first reel of a stack, and the empty name if it has none
abbrev pub first_name : {X : Type 0} → List (ReelSlot X) → List ℕ
first_name [] = []
first_name (first ∷ rest) = first.name

-- the reel that the session has open for writing
abbrev pub written_reel : TapeLibrary → PlainSession → Option (List ℕ)
written_reel s (Online drive access reel) = if writes access then Some (first_name (drive_at s drive).stack) else None
written_reel s session = None

-- the reel that this request opened for writing, if it did
abbrev pub opened_reel : PlainRequest → TapeLibrary → PlainSession → Option (List ℕ)
opened_reel (Open device mode) s session = written_reel s session
opened_reel request s session = None

-- the opening of this reel by connection `k`
abbrev pub opening : ℕ → List ℕ → Opening
opening k reel = record { connection = k; reel = reel }

-- the client's list of counts, which is empty if there is no client
abbrev pub list_in : Option WorldClient → List VolumeCount
list_in None = []
list_in (Some c) = c.at.counts

-- whether the request writes a record or marks
abbrev pub is_writing : PlainRequest → Bool
is_writing (Write bytes) = true
is_writing (WriteDropped count) = true
is_writing (Op op count) = op == MTWEOF
is_writing request = false

-- the reel on which this request writes, if the session has one open for writing
abbrev pub reel_written : PlainRequest → TapeLibrary → PlainSession → Option (List ℕ)
reel_written request s session = if is_writing request then written_reel s session else None

-- the writing on this reel by connection `k`, after that many openings
abbrev pub writing : ℕ → ℕ → List ℕ → Writing
writing k after reel = record { connection = k; reel = reel; after = after }

-- an attempt after a write was accepted: the first is that of the label, the others are those of
-- blocks
abbrev pub accepted : AttemptState → AttemptState
accepted d = if d.label then record d { blocks = raised d.blocks } else record d { label = true }

-- an attempt after a write was answered by error `n`, which is a device fault if it is EIO
abbrev pub noted_error : AttemptState → ℕ → AttemptState
noted_error d n = if n == EIO then record d { fault = true } else d

-- an attempt after the reply to a write of a record
abbrev pub noted_write : AttemptState → PlainReply → AttemptState
noted_write d (Done zero) = d
noted_write d (Done (suc n)) = accepted d
noted_write d (Data bytes) = d
noted_write d (Error n text) = noted_error d n

-- an attempt after the reply to MTWEOF
abbrev pub noted_marks : AttemptState → PlainReply → AttemptState
noted_marks d (Done n) = record d { mark = true }
noted_marks d (Data bytes) = d
noted_marks d (Error n text) = noted_error d n

-- the outcome of the attempt's writes after this request and its reply; MTWEOF writes marks
abbrev pub noted_by : AttemptState → PlainRequest → PlainReply → AttemptState
noted_by d (Write bytes) reply = noted_write d reply
noted_by d (Op op count) reply = if op == MTWEOF then noted_marks d reply else d
noted_by d request reply = d

-- an attempt after one of its requests was carried out
abbrev pub noted : PlainRequest → PlainReply → AttemptState → AttemptState
noted request reply d = let d' = noted_by d request reply in record d' { carried = raised d'.carried }

-- the connection after a request was carried out, with the reply in transit to the peer
abbrev pub answered : PlainRequest → PlainReply → Connection → Connection
answered request reply l =
    record l { back = sent_on l.cut l.back (reply_text reply); dump = option_map (noted request reply) l.dump }

-- an attempt after one more of its requests was sent
abbrev pub noted_sent : AttemptState → AttemptState
noted_sent d = record d { sent = raised d.sent }

-- the reel of the connection's first opening, and the empty name if it has none
abbrev pub reel_opened_by : ℕ → List Opening → List ℕ
reel_opened_by k [] = []
reel_opened_by k (o ∷ opens) = if o.connection == k then o.reel else reel_opened_by k opens

-- a count of the client, with its run, its connection and the reel of that connection
abbrev pub counts_of : World → ℕ → ℕ → VolumeCount → Count
counts_of w number k c =
    record { run = number; volume = c.volume; first = c.first; count = c.count; reel = reel_opened_by k w.opens; connection = k }

-- the world with these counts of the client added
abbrev pub counted_from : World → ℕ → ℕ → List VolumeCount → World
counted_from w number k counts = record w { counts = w.counts ++ map (counts_of w number k) counts }

-- The world after a call of the client. If its attempt failed or ended, it left its connection. A
-- failure is recorded with its volume.
abbrev pub after_client_call : World → ℕ → Standing → Progress → World
after_client_call w k at (Failed fault) = record (given_up w k) { failure = Some ((checkpoint_of at.counts).0, fault) }
after_client_call w k at Ended = given_up w k
after_client_call w k at progress = w
