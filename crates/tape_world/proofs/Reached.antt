-- Bytes that reach the server.
use Rattle.tape_world.proofs.Layers.{common_steps, ◌≡◌, ℕ, ◌≤◌, List, ◌++◌, length, take, Option, Some, None, refl, arith, same_Some, RequestHeld, Unread, ServerState, server, ServerConnection, side, Hosted, side_at, HasRoom, IsPiecePushed, with_numbered, side_of, HasRoomFor}
use Rattle.tape_world.proofs.Server.{side_found}

-- what came of so many bytes that were pushed to the side of connection k
pub record Reaches (h : ServerState) (k n : ℕ) (way : List ℕ) (new : ServerState) : Type 0 where
  pub side_is : ServerConnection
  pub reached : RequestHeld
  pub live : side_of h k ≡ Some side_is
  pub room : HasRoomFor side_is.reached n
  pub unread : (bytes : List ℕ) → Unread side_is.reached bytes → Unread reached (bytes ++ take n way)
  pub server_is : new ≡ server h.library h.holders (with_numbered h.sides k (Some (side reached side_is.session)))

reaches_at : (old : Hosted) (k n : ℕ) (way : List ℕ) (room pushed : ℕ) (r : Option ℕ) (new : Hosted) (o : Option ServerConnection)
    → side_at old.server.sides k ≡ o → HasRoom o r
    → r ≡ Some room → n ≤ length way → n ≤ room → IsPiecePushed old k (take n way) o pushed new → Reaches old.server k n way new.server
reaches_at old k n way room pushed r new None at has is fits within push = absurd cc
reaches_at old k n way room pushed r new (Some s) at has is fits within push = grind (arith, common_steps, same_Some, side_found)

pub reaches : (old : Hosted) (k n : ℕ) (way : List ℕ) (room pushed : ℕ) (r : Option ℕ) (new : Hosted) → HasRoom (side_at old.server.sides k) r
    → r ≡ Some room → n ≤ length way → n ≤ room → IsPiecePushed old k (take n way) (side_at old.server.sides k) pushed new
    → Reaches old.server k n way new.server
reaches old k n way room pushed r new has is fits within push =
    reaches_at old k n way room pushed r new (side_at old.server.sides k) refl has is fits within push
