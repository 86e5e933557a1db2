-- What one turn of a session leaves of a host.
use Rattle.std.proofs.Common.{◌≡◌, ◌⊎◌, ℕ, ◌<◌, Bool, List, length, map, slice_index, option_map, Option, Some, refl, sym, ap, subst, ◌∙◌, inl, inr}
use Rattle.std.proofs.Common.{arith}
use Rattle.world_host.proofs.Names.{PlainRequest, PlainReply, Unread, Trouble, IsHeldBy, library_of, state, session_seen, session_view_seen, drive_in}
use Rattle.world_host.proofs.Names.{with_holder, RealServerConnection, Next, Turn, hosted, side_at, with_side_at, TurnsAt, with_back, MemoryDrives}
use Rattle.world_host.proofs.Names.{seen_side, server_of, IsLive, IsHosting, IsCarried, TurnsSession, session_back, in_memory}
use Rattle.world_host.specs.declared.turn.Turn.TheVariants as turns
use Rattle.std.proofs.lemmas.Bool.Decides.{nat_tests}
use Rattle.std.proofs.lemmas.Grind.{elements}
use Rattle.rmt_server.specs.Laws.{OthersStayAt}
use Rattle.world_host.proofs.Sides.{side_within, side_map, length_with, map_with, with_own, side_here, side_replaced, still_there}
use Rattle.world_host.proofs.Tidied.{OnlineBeside, served_fits, side_tidy}
use Rattle.world_host.proofs.Ended.{live_stays, waiting_stays}

-- who held a drive before it that has a holder after a turn of side k
holder_after : (before after : Option ℕ) (k d n : ℕ) (holders : List ℕ) → d < length holders
    → slice_index (with_holder after k (with_holder before 0 holders)) d ≡ n → 0 < n
    → (n ≡ k) ⊎ (slice_index holders d ≡ n)
holder_after before after k d n holders l e x = grind (arith, elements, nat_tests)

module _ (others : OthersStayAt in_memory) {drives drives' : MemoryDrives} {sides : List (Option RealServerConnection)} {next : Next}
    (h : IsHosting drives sides next) (k : ℕ) (s after : RealServerConnection) (is : side_at sides k ≡ Some s)
    (readable : (bytes : List ℕ) × Unread after.reader bytes) (trouble : Trouble) (request : PlainRequest) (reply : PlainReply)
    (c : IsCarried trouble (state drives s.session) request reply (state drives' after.session)) where
  live : IsLive drives k s
  live = h.live k s is

  carried_live : (n : ℕ) (x : RealServerConnection) → side_at (with_side_at sides k (Some after)) n ≡ Some x → IsLive drives' n x
  carried_live n x e =
      let mine : IsLive drives' k after =
      record { at = c.untroubled.at; number = c.kept.number ∙ live.number; readable = readable; untroubled = c.untroubled.untroubled.online } in
      let stays = live_stays others live.number live.at c.untroubled.at c.kept n x in
      grind (arith, side_replaced sides k n s (Some after) (Some x) is e, h.live n x, stays, mine)

  carried_held : (d n : ℕ) → IsHeldBy drives'.holds d n → 0 < n
      → (x : RealServerConnection) × (side_at (with_side_at sides k (Some after)) n ≡ Some x)
  carried_held d n holder x =
      let l : d < length drives.holds.numbers = subst (λ m. d < m) c.kept.same_holds holder.0 in
      elim (holder_after (drive_in (session_seen s.session.opened)) (drive_in (session_seen after.session.opened)) s.session.seat.number d n
      drives.holds.numbers l (ap (λ l. slice_index l d) (sym c.served.held) ∙ holder.1) x) [
        | inl mine ↦ (after, ap (side_at (with_side_at sides k (Some after))) (mine ∙ live.number) ∙ side_here sides k s (Some after) is)
        | inr was ↦ still_there sides k n s after is (h.held d n (l, was) x)
      ]

  pub carried_hosting : IsHosting drives' (with_side_at sides k (Some after)) next
  carried_hosting = record {
    live = carried_live;
    held = carried_held;
    waiting = rw length_with (waiting_stays others live.number live.at c.untroubled.at c.kept (length sides) next (side_within sides k s is).1
        c.same_seats h.waiting);
    told = c.untroubled.told;
    paired = c.kept.same_holds ∙ h.paired ∙ sym c.kept.same_stacks;
    quiet = c.untroubled.untroubled.next;
    lying = c.untroubled.untroubled.lying;
    tidy = side_tidy sides k s is (Some after) (library_of drives.stacks) (library_of drives'.stacks) h.tidy
        (served_fits (OnlineBeside (map (option_map seen_side) sides) k) trouble drives.holds.numbers (session_view_seen (state drives s.session))
        request reply
        (session_view_seen (state drives' after.session)) c.served.step);
  }

-- nothing was done
same_sides : (drives drives' : MemoryDrives) (sides : List (Option RealServerConnection)) (k : ℕ) (s after : RealServerConnection)
    → side_at sides k ≡ Some s
    → after.reader ≡ s.reader → state drives' after.session ≡ state drives s.session
    → (drives' ≡ drives) × (with_side_at sides k (Some after) ≡ sides)
same_sides drives drives' sides k s after is reader same = let own = with_own sides k in grind arith

module _ (others : OthersStayAt in_memory) {drives : MemoryDrives} (drives' : MemoryDrives) {sides : List (Option RealServerConnection)} {next : Next}
    (h : IsHosting drives sides next) (k : ℕ) (s after : RealServerConnection) (is : side_at sides k ≡ Some s) (trouble : Trouble)
    (lost : Bool) (back back' : List ℕ) where
  abbrev pub Turns : Turn → Type 0
  Turns turn =
      TurnsSession trouble lost (session_back s.reader (state drives s.session) back) turn
      (session_back after.reader (state drives' after.session) back')

  pub turned_hosting : (turn : Turn) → Turns turn → IsHosting drives' (with_side_at sides k (Some after)) next
  turned_hosting turns.Nothing t = let e = same_sides drives drives' sides k s after is t.1 t.2 in rw (e.0, e.1) h
  turned_hosting (turns.Carried carried) t = carried_hosting others h k s after is (t.2.1, t.2.4) trouble t.0 t.1 t.3
  turned_hosting (turns.Broken fault) t = let e = same_sides drives drives' sides k s after is t.1 t.2 in rw (e.0, e.1) h

  turned_from : (turn : Turn) (ready : Bool) → Turns turn
      → TurnsAt (hosted (server_of drives sides) ready) trouble lost (with_back (hosted (server_of drives sides) ready) back) k (Some (seen_side s))
      turn (with_back (hosted (server_of drives' (with_side_at sides k (Some after))) ready) back')
  turned_from turns.Nothing ready t = let e = same_sides drives drives' sides k s after is t.1 t.2 in (t.0, rw (e.0, e.1) refl, t.3)
  turned_from (turns.Carried carried) ready t = (
    t.0,
    t.1,
    record {
      reached = after.reader;
      library = library_of drives'.stacks;
      session = session_seen after.session.opened;
      holders = drives'.holds.numbers;
      given = t.2;
      served = rw (h.live k s is).number at t.3.served;
      after = rw (map_with seen_side sides k (Some after)) refl;
    },
    refl,
    t.4,
    t.5,
  )
  turned_from (turns.Broken fault) ready t = let e = same_sides drives drives' sides k s after is t.1 t.2 in (t.0, rw (e.0, e.1) refl, t.3)

  -- it is seen as a turn
  pub turned_seen : (turn : Turn) (ready : Bool) → Turns turn
      → TurnsAt (hosted (server_of drives sides) ready) trouble lost (with_back (hosted (server_of drives sides) ready) back) k
      (side_at (map (option_map seen_side) sides) k) turn (with_back (hosted (server_of drives' (with_side_at sides k (Some after))) ready) back')
  turned_seen turn ready t = rw (side_map seen_side sides k, is) (turned_from turn ready t)
