-- How a change of the server's state changes the contents of reels.
-- What each event makes of reels, attempts and counts.
use Rattle.world_model.proofs.Basics.{◌≡◌, ◌⊎◌, ℕ, List, Some, None, refl, sym, ap, subst, ◌∙◌, inl, inr, slice_index_or, same_Some, arith, ◌<◌, ◌≤◌, false, length, length-append, map, Option, length-map}
use Rattle.world_model.proofs.Terms.{PlainEntry, TapeLibrary, drive_at, arranged, ServerState, server, ServerConnection, session_view, side_of, ended_from, first_name, online_drive_in, AreHeld, ReelLiesOn, HasInDrive, ReelHolds, RequestHeld, held, side, World, Connection, AttemptState, Begun, numbered, with_numbered, changed, without_server, sent_connection}
use Rattle.world_model.proofs.Ground.{Turn, turned, Sits, sits_is, joined_is, KeepsOver, ended_by, all_ended_by, KeepsHeldOver, held_ended_by, held_all_ended_by, step_comes, changed_is, length_changed, map_at, pushed_is, numbered_within, numbered_there, numbered_first, ServerMove, reads, arranges, server_after, IsNoRequest, talked, talked_dump, Move, moved, server_move, server_moved, begun_more}
use Rattle.world_model.proofs.Laid.{apart, online_drive, drive_other, free_off}
use Rattle.world_model.proofs.Opened.{closed_else, comes_else}
use Rattle.world_model.proofs.LabelledSteps.{closed_lies, arranged_lies, StandsIn, WritesOn, step_stood}
use Rattle.world_model.proofs.ServerMoves.{joins, serves, ends, restarts}
use Rattle.world_model.proofs.Moves as move

-- what stands on the reels of one hall stood there in the other
abbrev pub StoodIn : ServerState → ServerState → Type 0
StoodIn h u = (name : List ℕ) (entries : List PlainEntry) → ReelHolds u name entries → ReelHolds h name entries

-- one side serves a request
pub served_stands : (w : World) (v : Turn w) → AreHeld w.server → AreHeld (turned w v).server → (name : List ℕ) (entries : List PlainEntry)
    → ReelHolds (turned w v).server name entries
    → ReelHolds w.server name entries ⊎ WritesOn (session_view w.server.library v.s.session) v.request name
served_stands w v a b name entries stands = from stands
  where
    own : StandsIn (session_view v.library v.session) name entries → ReelHolds w.server name entries ⊎ WritesOn (session_view w.server.library v.s.session) v.request name
    own now =
        elim (step_stood v.trouble w.server.holders (session_view w.server.library v.s.session) v.request v.reply
        (session_view v.library v.session) v.served.step name entries now) [
          | inl before ↦ inl (grind arith)
          | inr wrote ↦ inr wrote
        ]

    from : ReelHolds (turned w v).server name entries → ReelHolds w.server name entries ⊎ WritesOn (session_view w.server.library v.s.session) v.request name
    from (inl lies) = own (inl lies)
    from (inr (j, y, at, has)) =
        let t : Sits w.server v.k v.s (Some (side v.reached v.session)) (turned w v).server = record { was = v.live; sides = refl } in
        elim (sits_is w.server v.k v.s _ (turned w v).server t j y at) [
          | inl (same, mine) ↦
              own (inr (subst (λ (z : ServerConnection). HasInDrive v.library z.session name entries) (sym (same_Some (side v.reached v.session) y mine)) has))
          | inr (other, was) ↦
              let drives = comes_else w.server.holders w.server v.k v.s (session_view v.library v.session) _ v.live a (apart w.server (turned w v).server v.k v.s _ t b)
              (step_comes v.trouble w.server.holders (session_view w.server.library v.s.session) v.request v.reply (session_view v.library v.session) v.served.step) in
              inl (inr (j, y, was, (grind arith)))
        ]

-- a side is over, and what it had open is laid back
pub over_stands : (base : ServerState) → KeepsHeldOver (StoodIn base)
over_stands base h k s is a stood name entries (inl lies) = grind (arith, closed_lies)
over_stands base h k s is a stood name entries (inr (j, y, at, has)) =
    let t = sits_is h k s None (ended_from h k (Some s)) record { was = is; sides = refl } j y at in
    grind (arith, closed_else, online_drive)

-- sides are others, and each that is online was there with the same session
pub sides_stand : (h u : ServerState) → u.library ≡ h.library
    → ((k d : ℕ) (y : ServerConnection) → side_of u k ≡ Some y → online_drive_in y.session ≡ Some d → (x : ServerConnection) × (side_of h k ≡ Some x) × (y.session ≡ x.session)) → StoodIn h u
sides_stand h u library same name entries (inl lies) = inl (subst (λ s. ReelLiesOn s name entries) library lies)
sides_stand h u library same name entries (inr (k, y, at, (drive, access, reel, online, named, holds))) =
    let x = same k drive y at (ap online_drive_in online) in
    inr (k, x.0, x.1, (drive, access, reel, sym x.2 ∙ online, ap (λ (s : TapeLibrary). first_name (drive_at s drive).stack) (sym library) ∙ named, holds))

-- an operator's order of the stack of a free drive
pub arranged_stands : (h : ServerState) (d : ℕ) (names : List (List ℕ)) → AreHeld h → slice_index_or h.holders d 0 ≡ 0
    → StoodIn h (server (arranged h.library d names) h.holders h.sides)
arranged_stands h d names a free name entries (inl lies) = inl (arranged_lies name entries h.library d names lies)
arranged_stands h d names a free name entries (inr (k, y, at, has)) = grind (arith, drive_other, free_off)

-- an attempt of which no request was carried out
pub record SameNotes (d e : AttemptState) : Type 0 where
  pub run : e.run ≡ d.run
  pub volume : e.volume ≡ d.volume
  pub first : e.first ≡ d.first
  pub carried : e.carried ≡ d.carried
  pub label : e.label ≡ d.label
  pub blocks : e.blocks ≡ d.blocks
  pub mark : e.mark ≡ d.mark
  pub fault : e.fault ≡ d.fault

pub same_notes : (d : AttemptState) → SameNotes d d
same_notes d = record { run = refl; volume = refl; first = refl; carried = refl; label = refl; blocks = refl; mark = refl; fault = refl }

-- a stranger's stays a stranger's, and a client's stays so
abbrev pub Like : Option AttemptState → Option AttemptState → Type 0
Like None p = p ≡ None
Like (Some d) p = (e : AttemptState) × (p ≡ Some e) × SameNotes d e

-- nothing was carried out of it, if it is a client's
abbrev pub IsFresh : Option AttemptState → Type 0
IsFresh None = Unit {0}
IsFresh (Some d) = (d.label ≡ false) × (d.carried ≡ 0)

-- each connection was there so, or is new
pub record ConnectionsLike (xs ys : List Connection) : Type 0 where
  pub at : (k : ℕ) (y : Connection) → numbered ys k ≡ Some y
      → ((x : Connection) × (numbered xs k ≡ Some x) × Like x.dump y.dump) ⊎ ((length xs < k) × IsFresh y.dump)
  pub more : length xs ≤ length ys

same_connections : (xs : List Connection) → ConnectionsLike xs xs
same_connections xs = record { at = λ k y at. inl (y, at, (grind arith)); more = omega arith }

then_changed : (xs : List Connection) (f : Connection → Connection) (j : ℕ) → ((x : Connection) → Like x.dump (f x).dump) → ConnectionsLike xs (changed f xs j)
then_changed xs f j like = grind (arith, changed_is, length_changed)

-- with the same attempt
then_kept : (xs : List Connection) (f : Connection → Connection) (j : ℕ) → ((x : Connection) → (f x).dump ≡ x.dump) → ConnectionsLike xs (changed f xs j)
then_kept xs f j keeps = then_changed xs f j (λ x. subst (Like x.dump) (sym (keeps x)) (grind arith))

then_mapped : (xs : List Connection) (f : Connection → Connection) → ((x : Connection) → Like x.dump (f x).dump) → ConnectionsLike xs (map f xs)
then_mapped xs f like = grind (arith, map_at, length-map)

-- a connection that was there
pub connection_still : (xs ys : List Connection) → ConnectionsLike xs ys → (k : ℕ) (x : Connection) → numbered xs k ≡ Some x → (y : Connection) × (numbered ys k ≡ Some y) × Like x.dump y.dump
connection_still xs ys t k x at =
    let within = numbered_within xs k x at in
    let more = t.more in
    let y = numbered_there ys k (numbered_first xs k x at) (omega (arith, within, more)) in grind arith

-- each side that is online was so, with the same session
abbrev pub SidesStay : ServerState → ServerState → Type 0
SidesStay h u =
    (k d : ℕ) (y : ServerConnection) → side_of u k ≡ Some y → online_drive_in y.session ≡ Some d → (x : ServerConnection) × (side_of h k ≡ Some x) × (y.session ≡ x.session)

-- Nothing new stands on a reel, and no request of an attempt was carried out.
pub record Quietly (w u : World) : Type 0 where
  pub stands : StoodIn w.server u.server
  pub sides : SidesStay w.server u.server
  pub opens : u.opens ≡ w.opens
  pub writings : u.writings ≡ w.writings
  pub begun : (n : ℕ) (b : Begun) → numbered w.begun n ≡ Some b → numbered u.begun n ≡ Some b
  pub connections : ConnectionsLike w.connections u.connections

-- a side has read more
read_stay : (h : ServerState) (k : ℕ) (s : ServerConnection) (reached : RequestHeld) → side_of h k ≡ Some s
    → SidesStay h (server h.library h.holders (with_numbered h.sides k (Some (side reached s.session))))
read_stay h k s reached live j d y at on =
    let u = server h.library h.holders (with_numbered h.sides k (Some (side reached s.session))) in
    let t = sits_is h k s (Some (side reached s.session)) u record { was = live; sides = refl } j y at in
    grind (arith, same_Some)

-- a side is over
over_stay : (base : ServerState) → KeepsOver (SidesStay base)
over_stay base h k s is stay j d y at on =
    let t = sits_is h k s None (ended_from h k (Some s)) record { was = is; sides = refl } j y at in
    grind arith

-- what an event makes of the sides, and of what stands on reels, but for a request
server_sides : (h : ServerState) (m : ServerMove h) → IsNoRequest h m → SidesStay h (server_after h m)
server_sides h (serves k s x library holders opened live unread comes held) none = absurd none
server_sides h joins none = grind (arith, joined_is)
server_sides h (reads k s reached live unread) none = read_stay h k s reached live
server_sides h (ends k) none = ended_by (SidesStay h) (over_stay h) h k (λ j d y at on. (y, at, refl))
server_sides h restarts none = all_ended_by (SidesStay h) (over_stay h) h (length h.sides) (λ j d y at on. (y, at, refl))
server_sides h m none = λ k d y at on. (y, at, refl)

server_stands : (h : ServerState) (m : ServerMove h) → IsNoRequest h m → AreHeld h → StoodIn h (server_after h m)
server_stands h (serves k s x library holders opened live unread comes held) none a = absurd none
server_stands h (ends k) none a = held_ended_by (StoodIn h) (over_stands h) h k a (λ name entries on. on)
server_stands h restarts none a = held_all_ended_by (StoodIn h) (over_stands h) h (length h.sides) a (λ name entries on. on)
server_stands h (arranges d names within free) none a = arranged_stands h d names a free
server_stands h m none a = sides_stand h (server_after h m) refl (server_sides h m none)

-- and of connections
connections_like : (w : World) (m : Move w) → IsNoRequest w.server (server_move w m) → ConnectionsLike w.connections (moved w m).connections
connections_like w (move.serves t) none = absurd none
connections_like w (move.connects c there stage) none = grind (arith, pushed_is, length-append)
connections_like w move.joins none = grind (arith, pushed_is, length-append)
connections_like w move.restarts none = then_mapped w.connections without_server (λ x. (grind arith))
connections_like w (move.asks t) none = then_changed w.connections (sent_connection _) t.k (λ x. (grind arith))
connections_like w (move.talks k l t at stranger) none = then_kept w.connections (talked t) k (talked_dump t)
connections_like w (move.begins run payload reader idle good long) none = same_connections w.connections
connections_like w (move.forgets x idle) none = same_connections w.connections
connections_like w (move.answers c answer reader there stage) none = same_connections w.connections
connections_like w (move.arranges d names within free) none = same_connections w.connections
connections_like w (move.enters c there finished fresh) none = same_connections w.connections
connections_like w (move.saves c there keeps) none = same_connections w.connections
connections_like w m none = then_kept w.connections _ _ (λ x. refl)

pub quiet_moved : (w : World) (m : Move w) → IsNoRequest w.server (server_move w m) → AreHeld w.server → Quietly w (moved w m)
quiet_moved w m none a = grind (arith, server_moved, server_stands, server_move, server_sides, begun_more, connections_like)
