-- How the headline is proved: which connection is the client's own, and which run is the client's.
-- No statement of the headline uses these definitions. Here `w` is a world, `k` the number of a
-- connection, `l` a connection, `d` the attempt on a connection, `b` a run that was begun, and `c`
-- the client. Public contracts depend on it (through Kept).
use Rattle.std.specs.Prelude.{◌≡◌, ℕ, IsTrue, Bool, true, false, Some}
use Rattle.dump_client.specs.declared.stage.Stage.{Stage}
use Rattle.dump_client.specs.declared.stage.Stage.TheVariants.{ToSend, Waiting}
use Rattle.world_model.specs.World.{World, Connection, AttemptState, Begun, WorldClient, numbered}
use Rattle.world_model.specs.Changes.{connection_of}

-- whether a client at this stage is in an attempt
abbrev pub is_in_attempt : Stage → Bool
is_in_attempt (ToSend step) = true
is_in_attempt (Waiting step) = true
is_in_attempt stage = false

-- connection `k` is one of the client's, and the client has not left it
abbrev pub IsClients : World → ℕ → Type 0
IsClients w k = (l : Connection) × (d : AttemptState) × (connection_of w k ≡ Some l) × IsTrue l.other × (l.dump ≡ Some d)

-- The client has a connection of its own exactly while it is in an attempt. The client has left all
-- its other connections.
pub record IsOwned (w : World) : Type 0 where
  pub own : (k : ℕ) → w.own ≡ Some k → IsClients w k × ((c : WorldClient) × (w.caller ≡ Some c) × IsTrue (is_in_attempt c.at.stage))
  pub attempt : (c : WorldClient) → w.caller ≡ Some c → IsTrue (is_in_attempt c.at.stage) → (k : ℕ) × (w.own ≡ Some k)
  pub only : (k : ℕ) → IsClients w k → w.own ≡ Some k

-- the client's run was begun under its number
abbrev pub IsBegun : World → Type 0
IsBegun w = (c : WorldClient) → w.caller ≡ Some c → (b : Begun) × (numbered w.begun c.number ≡ Some b) × (b.run ≡ c.at.run)
