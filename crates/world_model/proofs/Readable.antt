-- By each live side something is unread, if only no bytes, whatever happens.
use Rattle.world_model.proofs.Basics.{◌≡◌, ℕ, length, Option, Some, None, refl, sym, subst, same_Some, arith}
use Rattle.world_model.proofs.Terms.{held, ServerState, server, ServerConnection, side, World, with_numbered, side_of, ended_from, IsReadable}
use Rattle.world_model.proofs.Sides.{Sits, sits_is, joined_is, KeepsOver, all_ended_by}
use Rattle.world_model.proofs.ServerMoves.{HasUnread, ServerMove, reads, serves, restarts, server_after}
use Rattle.world_model.proofs.Moves.{Move, moved, server_move, server_moved}
use Rattle.world_model.proofs.SentWire.{fresh_unread}

abbrev AreRead : ServerState → Type 0
AreRead h = (k : ℕ) (s : ServerConnection) → side_of h k ≡ Some s → HasUnread s

-- one side is another, or over
turned_read : (h u : ServerState) (k : ℕ) (s : ServerConnection) (o : Option ServerConnection) → Sits h k s o u → ((x : ServerConnection) → o ≡ Some x → HasUnread x) → AreRead h → AreRead u
turned_read h u k s o t own r j x at = grind (arith, sits_is h k s o u t j x at, own x, r j x)

another_read : (h u : ServerState) (k : ℕ) (s x : ServerConnection) → Sits h k s (Some x) u → HasUnread x → AreRead h → AreRead u
another_read h u k s x t unread r = turned_read h u k s (Some x) t (λ y same. subst HasUnread (same_Some x y same) unread) r

over_read : KeepsOver AreRead
over_read h k s is r = turned_read h (ended_from h k (Some s)) k s None record { was = is; sides = refl } (λ x none. absurd cc) r

server_read : (h : ServerState) (m : ServerMove h) → AreRead h → AreRead (server_after h m)
server_read h (reads k s reached live unread) r =
    another_read h (server h.library h.holders (with_numbered h.sides k (Some (side reached s.session)))) k s (side reached s.session) record { was = live; sides = refl } unread r
server_read h (serves k s x library holders opened live unread comes held) r =
    another_read h (server library holders (with_numbered h.sides k (Some x))) k s x record { was = live; sides = refl } unread r
server_read h restarts r = all_ended_by AreRead over_read h (length h.sides) r
server_read h m r = grind (arith, joined_is, fresh_unread, over_read)

pub readable_moved : (w : World) (m : Move w) → IsReadable w → IsReadable (moved w m)
readable_moved w m r = subst AreRead (sym (server_moved w m)) (server_read w.server (server_move w m) r)
