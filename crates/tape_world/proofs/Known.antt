-- What leaves the names of all reels among those in memory.
use Rattle.tape_world.proofs.Layers.{TapeLibrary, World, IsLibraryKnown, ◌≡◌, ℕ, ◌<◌, List, sym, subst, SameNames}

-- no event brings a reel
pub known_after : (names : List (List ℕ)) (w u : World) (new : TapeLibrary) → SameNames w.server.library u.server.library → new ≡ u.server.library
    → IsLibraryKnown names w.server.library
    → IsLibraryKnown names new
known_after names w u new same is known =
    subst (λ (v : TapeLibrary). IsLibraryKnown names v) (sym is) record { each = λ name has. known.each name (subst (λ n. 0 < n) (same name) has) }
