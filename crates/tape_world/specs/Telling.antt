-- The values that functions of a world return. Plain data are the values that contracts use for
-- what the code has in memory. A count is the record of a volume that the client wrote whole to a
-- reel. Public contracts cite it.
use Rattle.std.specs.Prelude.{◌≡◌, ◌↔◌, ℕ, ◌≤◌, false, List, Option, Some, None}
use Rattle.rmt_wire.specs.ReplyReader.{ReplyHeld}
use Rattle.drives.specs.TapeLibrary.{KeptReel, ReelSlot, TapeLibrary, IsDriveNamed, drive_at}
use Rattle.dump_run.specs.Blocks.{ListedBlocks, listed}
use Rattle.dump_client.specs.Standing.{Standing}
use Rattle.dump_client.specs.Client.{ClientHeld}
use Rattle.world_model.specs.World.{World, Connection, Begun, WorldClient, Count, numbered}
use Rattle.world_model.specs.Events.PlainEvent.{ToServer, ToClient}
use Rattle.world_model.specs.Changes.{connection_of}
use Rattle.world_model.specs.Rows.{Possible}
use Rattle.tape_world.specs.declared.counts.CountedVolume.{CountedVolume}

-- a count, as plain data
abbrev pub plain_count : CountedVolume → Count
plain_count c = record {
  run = c.run;
  volume = c.volume;
  first = c.first;
  count = c.count;
  reel = c.reel.now;
  connection = c.connection;
}

-- the state of a client, and its reader of replies
abbrev pub client_told : {S : Type 0} → ClientHeld S → Standing × ReplyHeld
client_told c = (c.at, c.reader)

-- the state of the world's client, and its reader of replies
abbrev pub caller_told : WorldClient → Standing × ReplyHeld
caller_told c = (c.at, c.reader)

-- `p` holds of the numbers from 1 to `most`, and of no others
abbrev pub IsGreatest : (ℕ → Type 0) → ℕ → Type 0
IsGreatest p most = (n : ℕ) → p n ↔ ((1 ≤ n) × (n ≤ most))

-- how many bytes can now reach the server, and how many the peer; none if there is no such
-- connection
abbrev pub IsOnWay : World → ℕ → Option (ℕ × ℕ) → Type 0
IsOnWay w k None = connection_of w k ≡ None
IsOnWay w k (Some way) =
    (l : Connection) × (connection_of w k ≡ Some l) × IsGreatest (λ n. Possible w (ToServer k n)) way.0
    × IsGreatest (λ n. Possible w (ToClient k n)) way.1

-- the reels of the first drive of that name; none if there is no such drive
abbrev pub IsStackOf : List ℕ → TapeLibrary → Option (List (ReelSlot KeptReel)) → Type 0
IsStackOf name s None = IsDriveNamed name s None
IsStackOf name s (Some reels) = (d : ℕ) × IsDriveNamed name s (Some d) × (reels ≡ (drive_at s d).stack)

-- the blocks with which the client's run was begun, without an injected fault
pub record IsPayloadOf (w : World) (source : ListedBlocks) : Type 0 where
  pub client : WorldClient
  pub run : Begun
  pub failures : ℕ
  pub has : w.caller ≡ Some client
  pub begun : numbered w.begun client.number ≡ Some run
  pub same_run : run.run ≡ client.at.run
  pub source_is : source ≡ listed run.payload false failures
