-- How the headline is proved: what every event preserves of the names of reels, of the openings and
-- of the writings. No statement of the headline uses these definitions. Here `w` is a world, `k`
-- the number of a connection, and `s` the server's side of a connection. Public contracts depend on
-- it (through Kept).
use Rattle.std.specs.Prelude.{◌≡◌, ◌≢◌, ℕ, ◌<◌, ◌≤◌, List, length, take, Contains, Some}
use Rattle.drives.specs.TapeLibrary.{TapeLibrary, names_in, times, EachReelOnce}
use Rattle.rmt_server.specs.ServerState.{ServerConnection}
use Rattle.world_model.specs.World.{World, Opening, Writing, numbered}
use Rattle.world_model.specs.Changes.{side_of, written_reel, opening}
use Rattle.world_model.specs.Standing.{HasReel}

-- both libraries have the same names of reels, each as often
abbrev pub SameNames : TapeLibrary → TapeLibrary → Type 0
SameNames before after = (name : List ℕ) → times name (names_in after) ≡ times name (names_in before)

-- No two reels have the same name, and the reel of each opening is in the library.
pub record AreNamed (w : World) : Type 0 where
  pub once : EachReelOnce w.server.library
  pub opened : (o : Opening) → Contains w.opens o → HasReel w.server.library o.reel

-- Connection `k` opened the reel for writing, and no later opening of the list is of this reel.
abbrev pub IsUnopenedSince : List Opening → ℕ → List ℕ → Type 0
IsUnopenedSince opens k reel = (i : ℕ) × (numbered opens i ≡ Some (opening k reel))
    × ((j : ℕ) (o : Opening) → i < j → numbered opens j ≡ Some o → o.reel ≢ reel)

-- Each opening is that of an existing connection. If a session has a reel open for writing, nobody
-- has opened that reel for writing since this session did.
pub record AreOpened (w : World) : Type 0 where
  pub there : (o : Opening) → Contains w.opens o → (1 ≤ o.connection) × (o.connection ≤ length w.connections)
  pub last : (k : ℕ) (s : ServerConnection) (reel : List ℕ) → side_of w.server k ≡ Some s
      → written_reel w.server.library s.session ≡ Some reel → IsUnopenedSince w.opens k reel

-- Each write is by the connection whose open of the reel for writing was the last of those accepted
-- by then.
abbrev pub AreWritersLast : World → Type 0
AreWritersLast w =
    (x : Writing) → Contains w.writings x → (x.after ≤ length w.opens) × IsUnopenedSince (take x.after w.opens) x.connection x.reel
