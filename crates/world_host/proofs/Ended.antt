-- What the end of one side leaves of a host.
use Rattle.std.proofs.Common.{◌≡◌, ◌≢◌, ℕ, ◌<◌, ◌≤◌, false, List, length, map, slice_index, option_map, Option, Some, None, refl, sym, subst, ◌∙◌}
use Rattle.std.proofs.Common.{arith}
use Rattle.world_host.proofs.Names.{IsHeldBy, library_of, IsLibrary, state, drive_of, IsAt, HasView, SessionCanFail, KeepsDrives, holder_after_close}
use Rattle.world_host.proofs.Names.{IsClosed, MemoryState, in_memory, session_seen, session_view_seen, IsEnded, RealServerConnection, Next, side_at}
use Rattle.world_host.proofs.Names.{with_side_at, ended, MemoryDrives, MemorySessionState, seen_side, server_of, IsLive, IsNextWaiting, IsHosting}
use Rattle.std.proofs.lemmas.Bool.Decides.{nat_tests}
use Rattle.rmt_server.specs.Laws.{OthersStayAt, EndsUntroubled}
use Rattle.world_host.proofs.Sides.{side_within, side_other, side_map, length_with, map_with, side_replaced}
use Rattle.world_host.proofs.Tidied.{OnlineBeside, closed_fits, side_tidy}
use Rattle.world_host.proofs.Hosted.{holds_open}

-- what the law of one view says
abbrev pub TellsSessionView : Type 0
TellsSessionView = (x : MemoryState) → IsLibrary x.drives.stacks (library_of x.drives.stacks) → HasView in_memory x (session_view_seen x)

-- a side that is not live has no end
pub ended_none : (drives : MemoryDrives) (sides : List (Option RealServerConnection)) (k : ℕ) → side_at sides k ≡ None
    → server_of drives sides ≡ ended (server_of drives sides) k
ended_none drives sides k e = grind (arith, side_map seen_side sides k)

-- who held a drive that is held after a close
still_held : (drive : Option ℕ) (d m n : ℕ) → holder_after_close drive d m ≡ n → 0 < n → (m ≡ n) × (drive ≢ Some d)
still_held drive d m n e x = grind (arith, nat_tests)

module _ (others : OthersStayAt in_memory) {drives drives' : MemoryDrives} {k : ℕ} {one after : MemorySessionState} (number : one.seat.number ≡ k)
    (at : IsAt in_memory (state drives one)) (at' : IsAt in_memory (state drives' after))
    (kept : KeepsDrives in_memory (state drives one) (state drives' after)) where
  pub live_stays : (n : ℕ) (s : RealServerConnection) → n ≢ k → IsLive drives n s → IsLive drives' n s
  live_stays n s apart l = grind (arith, others drives drives' one after s.session)

  pub waiting_stays : (n : ℕ) (next : Next) → k ≤ n → drives'.holds.last ≡ drives.holds.last → IsNextWaiting drives n next
      → IsNextWaiting drives' n next
  waiting_stays n next within same w =
      let stays = λ (x : MemorySessionState) (a : IsAt in_memory (state drives x)). others drives drives' one after x at a in grind (arith, stays)

module _ (others : OthersStayAt in_memory) (session_view : TellsSessionView) (ends : EndsUntroubled) {drives : MemoryDrives}
    {sides : List (Option RealServerConnection)} {next : Next} (h : IsHosting drives sides next) (k : ℕ) (s : RealServerConnection)
    (is : side_at sides k ≡ Some s) (drives' : MemoryDrives) (after : MemorySessionState)
    (c : IsClosed in_memory (state drives s.session) (state drives' after)) where
  live : IsLive drives k s
  live = h.live k s is

  untroubled_before : SessionCanFail in_memory (state drives s.session) → ⊥
  untroubled_before f = grind (arith, h.quiet, h.lying, live.untroubled)

  left : IsEnded (state drives s.session) (session_view_seen (state drives s.session)) (state drives' after)
  left =
      ends false (state drives s.session) (state drives' after) (session_view_seen (state drives s.session)) live.at
      (session_view (state drives s.session) h.told) record { online = live.untroubled; next = h.quiet; lying = h.lying } c

  ended_live : (n : ℕ) (x : RealServerConnection) → side_at (with_side_at sides k None) n ≡ Some x → IsLive drives' n x
  ended_live n x e =
      let stays = live_stays others live.number live.at c.at c.kept n x in
      grind (arith, side_replaced sides k n s None (Some x) is e, h.live n x, stays)

  ended_held : (d n : ℕ) → IsHeldBy drives'.holds d n → 0 < n → (x : RealServerConnection) × (side_at (with_side_at sides k None) n ≡ Some x)
  ended_held d n holder x =
      let l : d < length drives.holds.numbers = subst (λ m. d < m) c.kept.same_holds holder.0 in
      let word = c.told d (slice_index drives.holds.numbers d) (l, refl) in
      let was = still_held (drive_of s.session.opened) d (slice_index drives.holds.numbers d) n (sym word.1 ∙ holder.1) x in
      let found = h.held d n (l, was.0) x in
      let apart : n ≢ k = λ same. was.1 (holds_open h d k s live (l, was.0 ∙ same)) in
      (found.0, side_other sides k n None apart ∙ found.1)

  pub ended_hosting : IsHosting drives' (with_side_at sides k None) next
  ended_hosting = record {
    live = ended_live;
    held = ended_held;
    waiting = rw length_with (waiting_stays others live.number live.at c.at c.kept (length sides) next (side_within sides k s is).1 c.same_seats
        h.waiting);
    told = (refl, rw left.tells.library.0 at left.tells.library.1);
    paired = c.kept.same_holds ∙ h.paired ∙ sym c.kept.same_stacks;
    quiet = grind (arith, untroubled_before, c.quiet);
    lying = left.lying;
    tidy = side_tidy sides k s is None (library_of drives.stacks) (library_of drives'.stacks) h.tidy
        (λ own. rw left.tells.library.0 at
        (closed_fits (OnlineBeside (map (option_map seen_side) sides) k) (library_of drives.stacks) (session_seen s.session.opened) own));
  }

  pub ended_server : server_of drives' (with_side_at sides k None) ≡ ended (server_of drives sides) k
  ended_server = grind (arith, left.tells.library, left.held, map_with seen_side sides k None, side_map seen_side sides k)
