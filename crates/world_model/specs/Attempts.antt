-- How the headline is proved: what every event preserves of the reels of the client's attempts, and
-- of its counts. No statement of the headline uses these definitions. A count is the record of a
-- volume that the client wrote whole to a reel. Here `w` is a world, `k` the number of a
-- connection, `l` a connection, `d` the attempt on a connection, `b` a run that was begun, `s` the
-- server's side of a connection, and `x` a count. Public contracts depend on it (through Kept).
use Rattle.std.specs.Prelude.{◌≡◌, ℕ, ◌+◌, ◌≤◌, true, false, List, [], length, Contains, Some}
use Rattle.tape.specs.Tape.{PlainEntry}
use Rattle.rmt_server.specs.ServerState.{ServerConnection}
use Rattle.rmt_server.specs.Session.{PlainReel}
use Rattle.dump_client.specs.Lawful.{steps_before}
use Rattle.dump_client.specs.declared.step.Step.TheVariants.{Close}
use Rattle.world_model.specs.World.{World, Connection, AttemptState, Begun, Count, Opening, numbered}
use Rattle.world_model.specs.Changes.{side_of, connection_of, opening}
use Rattle.world_model.specs.Standing.{ReelHolds, IsOnlineWith}
use Rattle.world_model.specs.Written.{attempt_written, IsQuiet, IsBeforeOffline}

-- The reel holds what the attempt wrote, and nothing else. While the attempt's session has the reel
-- online, and MTOFFL was not carried out, the reel is positioned at its end.
pub record IsReelWritten (w : World) (k : ℕ) (b : Begun) (d : AttemptState) (reel : List ℕ) : Type 0 where
  pub stands : (entries : List PlainEntry) → ReelHolds w.server reel entries → entries ≡ attempt_written b.run b.payload d
  pub behind : (s : ServerConnection) (r : PlainReel) → side_of w.server k ≡ Some s → IsOnlineWith s.session r → IsBeforeOffline b.run d
      → r.tape.after ≡ []

-- If the label of the attempt was accepted, its run was begun. Each reel on which the attempt is
-- quiet then holds what it wrote.
abbrev pub IsLabelled : World → ℕ → AttemptState → Type 0
IsLabelled w k d =
    d.label ≡ true → (b : Begun) × (numbered w.begun d.run ≡ Some b)
    × ((reel : List ℕ) → IsQuiet w k d reel → IsReelWritten w k b d reel)

-- On each of the client's connections: if the label of its attempt was accepted, its run was begun.
-- Each reel on which the attempt is quiet then holds what it wrote.
abbrev pub AreLabelled : World → Type 0
AreLabelled w = (k : ℕ) (l : Connection) (d : AttemptState) → connection_of w k ≡ Some l → l.dump ≡ Some d → IsLabelled w k d

-- Connection `k`, which is one of the client's, has one opening at most. It has none before its
-- first request was carried out, and one once its label was accepted.
pub record IsSingle (opens : List Opening) (k : ℕ) (d : AttemptState) : Type 0 where
  pub one : (i j : ℕ) (o p : Opening) → numbered opens i ≡ Some o → numbered opens j ≡ Some p → o.connection ≡ k → p.connection ≡ k → i ≡ j
  pub none : d.carried ≡ 0 → (o : Opening) → Contains opens o → o.connection ≡ k → ⊥
  pub some : d.label ≡ true → (reel : List ℕ) × Contains opens (opening k reel)

-- Each of the client's connections has one opening at most. It has none before its first request
-- was carried out, and one once its label was accepted.
abbrev pub AreSingle : World → Type 0
AreSingle w = (k : ℕ) (l : Connection) (d : AttemptState) → connection_of w k ≡ Some l → l.dump ≡ Some d → IsSingle w.opens k d

-- The count belongs to the attempt `d` of a run that was begun. The attempt's label, the counted
-- blocks and its mark were accepted, and its MTOFFL was carried out. No write of it met a device
-- fault, and its connection opened that reel for writing.
pub record IsEarnedBy (w : World) (x : Count) (l : Connection) (d : AttemptState) (b : Begun) : Type 0 where
  pub there : connection_of w x.connection ≡ Some l
  pub dump : l.dump ≡ Some d
  pub begun : numbered w.begun x.run ≡ Some b
  pub run : d.run ≡ x.run
  pub volume : d.volume ≡ x.volume
  pub first : d.first ≡ x.first
  pub count : d.blocks ≡ x.count
  pub within : x.first + x.count ≤ b.run.blocks
  pub label : d.label ≡ true
  pub mark : d.mark ≡ true
  pub unloaded : length (steps_before b.run d.first (d.first + d.blocks) Close) ≤ d.carried
  pub fault : d.fault ≡ false
  pub opened : Contains w.opens (opening x.connection x.reel)

-- Each count of the world belongs to the attempt of one of its connections, whose label, blocks and
-- mark were accepted, and whose MTOFFL was carried out.
abbrev pub EachCountHasAttempt : World → Type 0
EachCountHasAttempt w = (x : Count) → Contains w.counts x → (l : Connection) × (d : AttemptState) × (b : Begun) × IsEarnedBy w x l d b
