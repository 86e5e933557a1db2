-- How an event moves the hall.
use Rattle.world_model.proofs.Basics.{◌≡◌, ℕ, ◌<◌, List, length, Option, Some, slice_index_or}
use Rattle.world_model.proofs.Terms.{RequestHeld, Unread, TapeLibrary, arranged, ServerState, server, ServerConnection, side, session_view, drive_in, with_holder, with_numbered, side_of, with_side, ended, all_ended}
use Rattle.world_model.proofs.NamedRequests.{Comes}

-- something is unread by the side, if only no bytes
abbrev pub HasUnread : ServerConnection → Type 0
HasUnread x = (bytes : List ℕ) × Unread x.reached bytes

-- An event leaves the hall; or there is one more connection; or a side has read more; or it served a request; or it is over; or all
-- are; or the stack of a free drive is arranged.
pub data ServerMove (h : ServerState) : Type 0 where
  leaves : ServerMove h
  joins : ServerMove h
  reads : (k : ℕ) (s : ServerConnection) (reached : RequestHeld) → side_of h k ≡ Some s → HasUnread (side reached s.session) → ServerMove h
  serves : (k : ℕ) (s x : ServerConnection) (library : TapeLibrary) (holders : List ℕ) (opened : Option (List ℕ)) → side_of h k ≡ Some s → HasUnread x
      → Comes h.holders (session_view h.library s.session) (session_view library x.session) opened
      → holders ≡ with_holder (drive_in x.session) k (with_holder (drive_in s.session) 0 h.holders) → ServerMove h
  ends : (k : ℕ) → ServerMove h
  restarts : ServerMove h
  arranges : (d : ℕ) (names : List (List ℕ)) → d < length h.library.drives → slice_index_or h.holders d 0 ≡ 0 → ServerMove h

-- the hall after it
abbrev pub server_after : (h : ServerState) → ServerMove h → ServerState
server_after h leaves = h
server_after h joins = with_side h
server_after h (reads k s reached live unread) = server h.library h.holders (with_numbered h.sides k (Some (side reached s.session)))
server_after h (serves k s x library holders opened live unread comes held) = server library holders (with_numbered h.sides k (Some x))
server_after h (ends k) = ended h k
server_after h restarts = all_ended h (length h.sides)
server_after h (arranges d names within free) = server (arranged h.library d names) h.holders h.sides

-- it serves no request
abbrev pub IsNoRequest : (h : ServerState) → ServerMove h → Type 0
IsNoRequest h (serves k s x library holders opened live unread comes held) = ⊥
IsNoRequest h m = Unit {0}
