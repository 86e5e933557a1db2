-- How a host's drives stay those of its sides.
use Rattle.std.proofs.Common.{◌<◌, ◌≡◌, ℕ, ◌+◌, true, List, [], ◌∷◌, ◌++◌, length, map, replicate, option_map, Option, Some, None, sym, ap, subst}
use Rattle.std.proofs.Common.{◌∙◌, arith, refl, Bool}
use Rattle.rmt_wire.specs.RequestReader.{dropped_line}
use Rattle.world_host.proofs.Names.{length-replicate, get_or-replicate, length-append, map-append, nil_from_length, common_steps, RequestHeld, held}
use Rattle.world_host.proofs.Names.{UnreadAt, Unread, TroubledTape, View, latched_at, newcomer, HoldsJust, holders, IsSeatOf, IsHeldBy, library_of}
use Rattle.world_host.proofs.Names.{IsLibrary, StacksCanFail, Opened, drive_of, in_memory, session_seen, drive_in, side, RealServerConnection, Next}
use Rattle.world_host.proofs.Names.{Nothing, Seat, Whole, side_at, drive_open_by, IsHeldOnce, joined, AreAllInSlots, IsOnlineAt, MemoryDrives}
use Rattle.world_host.proofs.Names.{MemorySessionState, seen_side, server_of, is_nothing, IsMade, IsLive, IsHosting, IsNextWaiting, hosted}
use Rattle.world_host.proofs.Names.{with_side_at, TakesIn, IsPiecePushed}
use Rattle.std.proofs.lemmas.Bool.Decides.{nat_tests}
use Rattle.rmt_server.specs.Laws.{StaysAtWithMoreSeats}
use Rattle.world_host.proofs.Lying.{lie_first}
use Rattle.world_host.proofs.Sides.{side_within, side_map, more_there, at_push, length_with, map_with, side_replaced, still_there}
use Rattle.world_host.proofs.Tidied.{joined_tidy, none_online, side_tidy}

-- drives that no seat holds, and no connection
pub first_hosting : (drives : MemoryDrives) (n : ℕ) → drives.holds ≡ holders (replicate n 0) 0 → length drives.stacks.library.drives ≡ n
    → IsLibrary drives.stacks (library_of drives.stacks) → (StacksCanFail drives.stacks → ⊥) → AreAllInSlots (library_of drives.stacks)
    → IsHosting drives [] Nothing
first_hosting drives n e all told quiet rested =
    let tidy = lie_first (library_of drives.stacks) (IsOnlineAt []) rested in
    grind (arith, common_steps, tidy, length-replicate {A = ℕ} n 0, get_or-replicate {A = ℕ} n)

-- the drive that a session is seen to have open
seen_drive : (opened : Option (Opened TroubledTape)) → drive_in (session_seen opened) ≡ drive_of opened
seen_drive opened = grind arith

module _ {drives : MemoryDrives} {sides : List (Option RealServerConnection)} {next : Next} (h : IsHosting drives sides next) where
  -- the holder of a drive is the number of the side that has it open
  pub holds_open : (d k : ℕ) (s : RealServerConnection) → IsLive drives k s → IsHeldBy drives.holds d k → drive_of s.session.opened ≡ Some d
  holds_open d k s live held = grind (arith, nat_tests, live.at.held d, live.at.own.agrees d)

  open_holds : (d k : ℕ) (s : RealServerConnection) → IsLive drives k s → drive_of s.session.opened ≡ Some d → IsHeldBy drives.holds d k
  open_holds d k s live o = grind (arith, nat_tests, live.at.held d, live.at.own.agrees d, live.at.below d, h.paired)

  open_back : (d k : ℕ) → drive_open_by (side_at (map (option_map seen_side) sides) k) ≡ Some d → IsHeldBy drives.holds d k
  open_back d k o =
      let holds = λ (s : RealServerConnection) (e : side_at sides k ≡ Some s). open_holds d k s (h.live k s e) in
      grind (arith, side_map seen_side sides k, holds, seen_drive)

  -- one holder
  pub held_once : IsHeldOnce (server_of drives sides)
  held_once d k x = grind (arith, side_map seen_side sides k, h.held d k, h.live k, holds_open d k, open_back d k, seen_drive)

  -- no reel is latched at a drive that has no holder
  pub unlatched : (d : ℕ) → IsHeldBy drives.holds d 0 → latched_at (library_of drives.stacks) d ≡ None
  unlatched d none =
      let nobody : IsOnlineAt (map (option_map seen_side) sides) d → ⊥ = none_online sides d (λ k s e o. (
      let held = open_holds d k s (h.live k s e) o in
      let within = side_within sides k s e in absurd (omega (arith, within.0, held.1, none.1)))) in
      grind (arith, nobody, h.tidy.first d)

pub nothing_is : (next : Next) → is_nothing next ≡ true → next ≡ Nothing
nothing_is next e = grind arith

seated_live : StaysAtWithMoreSeats in_memory → (drives : MemoryDrives) (k : ℕ) (s : RealServerConnection) → IsLive drives k s
    → IsLive (record drives { holds = holders drives.holds.numbers (drives.holds.last + 1) }) k s
seated_live more drives k s l = grind (arith, more drives s.session (drives.holds.last + 1))

-- the next connection got a seat
pub seated_hosting : StaysAtWithMoreSeats in_memory → (drives after : MemoryDrives) (sides : List (Option RealServerConnection))
    → IsHosting drives sides Nothing → (seat : View)
    → after ≡ record drives { holds = holders drives.holds.numbers (drives.holds.last + 1) } → seat ≡ newcomer (drives.holds.last + 1)
    → IsSeatOf after.holds seat → HoldsJust seat None → IsHosting after sides (Seat seat)
seated_hosting more drives after sides h seat e number own idle =
    let stays = λ (x : MemorySessionState). more drives x (drives.holds.last + 1) in
    let waiting : IsNextWaiting after (length sides) (Seat seat) = grind (arith, h.waiting, h.paired) in
    let live = λ (k : ℕ) (s : RealServerConnection) (x : side_at sides k ≡ Some s). seated_live more drives k s (h.live k s x) in
    rw e (assumption (live, rw e at waiting))

-- the next connection's side was made of its seat
pub made_hosting : (drives : MemoryDrives) (sides : List (Option RealServerConnection)) (old next : Next) → IsHosting drives sides old
    → IsMade old next
    → IsHosting drives sides next
made_hosting drives sides old next h m = grind arith

module _ {drives : MemoryDrives} {sides : List (Option RealServerConnection)} {s : RealServerConnection} (h : IsHosting drives sides (Whole s)) where
  -- the side that was admitted is live, and so are the others
  joined_live : (k : ℕ) (x : RealServerConnection) → side_at (sides ++ Some s ∷ []) k ≡ Some x → IsLive drives k x
  joined_live k x e = grind (arith, at_push sides k s x e, h.live k x)

  pub joined_hosting : IsHosting drives (sides ++ Some s ∷ []) Nothing
  joined_hosting =
      let held = λ (d n : ℕ) (holder : IsHeldBy drives.holds d n) (x : 0 < n). more_there sides n s (h.held d n holder x) in
      let waiting : drives.holds.last ≡ length (sides ++ Some s ∷ []) = rw length-append h.waiting.0 in
      assumption (joined_live, held, waiting, joined_tidy sides s (library_of drives.stacks) h.tidy)

nothing_kept : (line : Option (ℕ × ℕ)) (r : RequestHeld) → UnreadAt line r [] → length r.kept ≡ 0
nothing_kept None r (z, e) = ap length (sym e)
nothing_kept (Some line) r (gone, a, b, e) = let w = ap length e in grind (arith, common_steps)

-- a reader of which nothing is unread holds nothing
unread_nothing : (r : RequestHeld) → Unread r [] → r ≡ held [] 0
unfolding dropped_line
unread_nothing r u =
    let k : r.kept ≡ [] = nil_from_length r.kept (nothing_kept (dropped_line r.kept) r u) in
    let v : Unread (held [] r.dropped) [] = subst (λ kept. Unread (held kept r.dropped) []) k u in
    ap (λ kept. held kept r.dropped) k ∙ ap (held []) v.0

-- it is seen as one connection more
pub joined_server : (drives : MemoryDrives) (sides : List (Option RealServerConnection)) (s : RealServerConnection) → IsHosting drives sides (Whole s)
    → server_of drives (sides ++ Some s ∷ []) ≡ joined (server_of drives sides)
joined_server drives sides s h = grind (arith, map-append (option_map seen_side) sides (Some s ∷ []), unread_nothing s.reader, h.waiting)

-- ---- a piece that one side takes in

-- a side with another reader
abbrev pub with_reader : RealServerConnection → RequestHeld → RealServerConnection
with_reader s reader = record { reader = reader; session = s.session }

module _ {drives : MemoryDrives} {sides : List (Option RealServerConnection)} {next : Next} (h : IsHosting drives sides next)
    (k : ℕ) (s : RealServerConnection) (is : side_at sides k ≡ Some s) (reader : RequestHeld)
    (readable : (bytes : List ℕ) × Unread reader bytes) where
  pushed_live : (n : ℕ) (x : RealServerConnection) → side_at (with_side_at sides k (Some (with_reader s reader))) n ≡ Some x → IsLive drives n x
  pushed_live n x e = grind (arith, side_replaced sides k n s (Some (with_reader s reader)) (Some x) is e, h.live n, h.live k s is)

  pub pushed_hosting : IsHosting drives (with_side_at sides k (Some (with_reader s reader))) next
  pushed_hosting =
      let held = λ (d n : ℕ) (holder : IsHeldBy drives.holds d n) (x : 0 < n).
      still_there sides k n s (with_reader s reader) is (h.held d n holder x) in
      let waiting = rw (← length_with sides k (Some (with_reader s reader))) at h.waiting in
      let tidy = side_tidy sides k s is (Some (with_reader s reader)) (library_of drives.stacks) (library_of drives.stacks) h.tidy (λ own. own) in
      assumption (pushed_live, held, waiting, tidy)

-- it is seen as a piece that was taken in
pub pushed_seen : (drives : MemoryDrives) (sides : List (Option RealServerConnection)) (ready : Bool) (k : ℕ) (s : RealServerConnection)
    (piece : List ℕ) (count : ℕ) (reader : RequestHeld) → side_at sides k ≡ Some s → TakesIn s.reader piece count reader
    → IsPiecePushed (hosted (server_of drives sides) ready) k piece (side_at (map (option_map seen_side) sides) k) count
    (hosted (server_of drives (with_side_at sides k (Some (with_reader s reader)))) ready)
pushed_seen drives sides ready k s piece count reader is takes =
    rw (side_map seen_side sides k, is)
    (reader, takes, rw (map_with seen_side sides k (Some (with_reader s reader))) refl)
