-- The server's side of each connection, by number, and the effect of each call of a host on its
-- server. Public contracts cite it.
use Rattle.std.specs.Prelude.{◌≡◌, ℕ, zero, suc, ◌+◌, ◌-◌, ◌<◌, ◌↔◌, min, take, Bool, List, [], ◌∷◌, ◌++◌, length, slice_set, slice_index, slice_index_or, Option, Some, None}
use Rattle.rmt_wire.specs.RequestReader.{RequestHeld, held, Unread, taken_of}
use Rattle.rmt_wire.specs.declared.limits.TheConstants.{READER_LIMIT}
use Rattle.drives.specs.Arranging.{arranged}
use Rattle.rmt_server.specs.Session.{closed_library}
use Rattle.rmt_server.specs.Session.PlainSession.{Idle}
use Rattle.rmt_server.specs.TroubledServe.{drive_in, with_holder}
use Rattle.rmt_server.specs.ServerState.{ServerState, server, ServerConnection, side}

-- a host's server, and whether the server's side of the next connection is ready
pub record Hosted : Type 0 where
  pub server : ServerState
  pub ready : Bool

-- the `Hosted` with these parts
abbrev pub hosted : ServerState → Bool → Hosted
hosted h ready = record { server = h; ready = ready }

-- the server's side of connection `k`, while it is live; connections are numbered from 1
abbrev pub side_at : {S : Type 0} → List (Option S) → ℕ → Option S
side_at sides zero = None
side_at sides (suc i) = slice_index_or sides i None

-- the sides, with `s` in the place of connection `k`
abbrev pub with_side_at : {S : Type 0} → List (Option S) → ℕ → Option S → List (Option S)
with_side_at sides zero s = sides
with_side_at sides (suc i) s = slice_set sides i s

-- the drive that the server's side of a connection, if it is live, has open
abbrev pub drive_open_by : Option ServerConnection → Option ℕ
drive_open_by None = None
drive_open_by (Some s) = drive_in s.session

-- the drive that connection `k` has open, while the server's side is live
abbrev pub drive_open : ServerState → ℕ → Option ℕ
drive_open h k = drive_open_by (side_at h.sides k)

-- the holder of drive `d` is `k`
abbrev pub IsHolder : ServerState → ℕ → ℕ → Type 0
IsHolder h d k = (d < length h.holders) × (slice_index h.holders d ≡ k)

-- One holder: the holder of a drive is `k` exactly if the server's side of connection `k` is live
-- and has that drive open.
abbrev pub IsHeldOnce : ServerState → Type 0
IsHeldOnce h = (d k : ℕ) → 0 < k → IsHolder h d k ↔ (drive_open h k ≡ Some d)

-- the server with one more connection, whose server's side has read nothing and has nothing open
abbrev pub joined : ServerState → ServerState
joined h = server h.library h.holders (h.sides ++ Some (side (held [] 0) Idle) ∷ [])

-- the server, with this reader at connection `k`
abbrev pub with_reached : ServerState → ℕ → ServerConnection → RequestHeld → ServerState
with_reached h k s reached = server h.library h.holders (with_side_at h.sides k (Some (side reached s.session)))

-- `room` is how many bytes the reader has room for; none if the server's side is not live
abbrev pub HasRoom : Option ServerConnection → Option ℕ → Type 0
HasRoom None room = room ≡ None
HasRoom (Some s) room = (n : ℕ) × (room ≡ Some n) × ((unread : List ℕ) → Unread s.reached unread → n + taken_of unread ≡ READER_LIMIT)

-- The reader took the first `count` bytes of the piece, which is as many as it had room for.
abbrev pub TakesIn : RequestHeld → List ℕ → ℕ → RequestHeld → Type 0
TakesIn before piece count after =
    (unread : List ℕ) → Unread before unread
    → (count ≡ min (length piece) (READER_LIMIT - taken_of unread)) × Unread after (unread ++ take count piece)

-- A piece reached connection `k`, and `count` bytes of it were taken. If the server's side is not
-- live, nothing was taken.
abbrev pub IsPiecePushed : Hosted → ℕ → List ℕ → Option ServerConnection → ℕ → Hosted → Type 0
IsPiecePushed old k piece None count new = (count ≡ 0) × (new ≡ old)
IsPiecePushed old k piece (Some s) count new =
    (reached : RequestHeld) × TakesIn s.reached piece count reached × (new ≡ hosted (with_reached old.server k s reached) old.ready)

-- the server's side ended: what it had open is closed, and its drive has no holder
abbrev pub ended_from : ServerState → ℕ → Option ServerConnection → ServerState
ended_from h k None = h
ended_from h k (Some s) =
    server (closed_library h.library s.session) (with_holder (drive_in s.session) 0 h.holders) (with_side_at h.sides k None)

-- the server after its side of connection `k` ended
abbrev pub ended : ServerState → ℕ → ServerState
ended h k = ended_from h k (side_at h.sides k)

-- the server after its sides of connections 1 to `k` ended
abbrev pub all_ended : ServerState → ℕ → ServerState
all_ended h zero = h
all_ended h (suc k) = ended (all_ended h k) (suc k)

-- the server after the stack of drive `d` was made the reels of these names
abbrev pub restacked : ServerState → ℕ → List (List ℕ) → ServerState
restacked h d names = server (arranged h.library d names) h.holders h.sides
