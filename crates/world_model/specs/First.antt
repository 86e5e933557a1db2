-- The world before any event, and the worlds that events lead to from there. Public contracts cite
-- it.
use Rattle.std.specs.Prelude.{◌≡◌, ℕ, IsTrue, List, [], length, map, flat_map, replicate, Some, None}
use Rattle.std.specs.Int.{IsInRange}
use Rattle.drives.specs.TapeLibrary.{KeptReel, kept_reel, slot, Drive, drive_with, library}
use Rattle.drives.specs.Arranging.{are_distinct}
use Rattle.drives.specs.declared.holds.TheConstants.{DRIVE_LIMIT}
use Rattle.rmt_wire.specs.RequestReader.{Unread}
use Rattle.rmt_server.specs.ServerState.{server, ServerConnection}
use Rattle.world_model.specs.World.{World}
use Rattle.world_model.specs.Events.{PlainEvent}
use Rattle.world_model.specs.Changes.{side_of}
use Rattle.world_model.specs.Steps.{Runs}

-- a drive of the first world: its name, the capacity of each of its reels in bytes, and their names
pub record PlainDriveSpec : Type 0 where
  pub name : List ℕ
  pub capacity : ℕ
  pub reels : List (List ℕ)

-- the drive with all its reels on its stack, each of them blank
abbrev pub blank_drive : PlainDriveSpec → Drive KeptReel
blank_drive d = drive_with d.name (map (λ name. slot name (Some (kept_reel [] d.capacity))) d.reels)

-- There are 1 to `DRIVE_LIMIT` drives. No two of them have the same name, and no two reels of all
-- drives have the same name.
abbrev pub AreGoodDrives : List PlainDriveSpec → Type 0
AreGoodDrives drives =
    IsInRange 1 DRIVE_LIMIT (length drives) × IsTrue (are_distinct (map (λ d. d.name) drives))
    × IsTrue (are_distinct (flat_map (λ d. d.reels) drives))

-- nothing has happened: all reels are blank, and there is no connection and no run
abbrev pub first_world : List PlainDriveSpec → World
first_world drives = record {
  server = server (library (map blank_drive drives) []) (replicate (length drives) 0) [];
  connections = [];
  begun = [];
  caller = None;
  own = None;
  counts = [];
  opens = [];
  lists = [];
  writings = [];
  entered = [];
  kept = None;
  failure = None;
  dates = [];
}

-- Some list of events leads from the first world of some good drives to this world.
abbrev pub IsReached : World → Type 0
IsReached w = (drives : List PlainDriveSpec) × (events : List PlainEvent) × AreGoodDrives drives × Runs (first_world drives) events w

-- Each connection has an entry for the server's side, live or ended. Each drive has an entry for
-- its holder, which is 0 if there is none.
pub record IsPaired (w : World) : Type 0 where
  pub connections : length w.server.sides ≡ length w.connections
  pub holders : length w.server.holders ≡ length w.server.library.drives

-- The reader of each live server's side holds some unread bytes, perhaps none.
abbrev pub IsReadable : World → Type 0
IsReadable w = (k : ℕ) (s : ServerConnection) → side_of w.server k ≡ Some s → (bytes : List ℕ) × Unread s.reached bytes
