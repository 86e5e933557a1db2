-- Drives and reels in memory: the one view that they have, and what stays where troubles are set and taken back.
use Rattle.std.proofs.Common.{◌≡◌, Bool, arith}
use Rattle.drives.specs.ListLibrary.{IsLibrary, library_of}
use Rattle.rmt_server.proofs.Names.{PlainRequest, Trouble, troubled_in, SessionView, IsAt, HasView, MemoryState, in_memory, IsTroubled, IsSetFor}
use Rattle.rmt_server.specs.Memory.{session_view_seen}
use Rattle.rmt_server.specs.TroubledServe.{with_troubles, set_for}

-- they tell it where each reel stands once
pub seen_told : (x : MemoryState) → IsLibrary x.drives.stacks (library_of x.drives.stacks) → HasView in_memory x (session_view_seen x)
seen_told x told = grind arith

-- and no other
pub seen_only : (x : MemoryState) (v : SessionView) → HasView in_memory x v → v ≡ session_view_seen x
seen_only x v tells = grind arith

module _ (reel : Trouble) (stacks : Bool) (x : MemoryState) where
  pub troubles_are_set : troubled_in x.drives.stacks.library ≡ 0 → IsTroubled reel stacks (with_troubles reel stacks x)
  troubles_are_set none = grind arith

  -- what is told stays
  pub troubles_told : (v : SessionView) → HasView in_memory x v → HasView in_memory (with_troubles reel stacks x) v
  troubles_told v tells = grind arith

  -- the drives are still those of the session
  pub troubles_at : IsAt in_memory x → IsAt in_memory (with_troubles reel stacks x)
  troubles_at at = grind arith

-- the trouble that a request meets
pub request_set : (trouble : Trouble) (request : PlainRequest) (x : MemoryState) → troubled_in x.drives.stacks.library ≡ 0
    → IsSetFor trouble request (set_for trouble request x)
request_set trouble request x none = grind (arith, troubles_are_set)
