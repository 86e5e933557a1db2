-- Which reels are in their slots, on the stacks and in the bin, and which are away. A drive's
-- latched reel is the first of its stack: it is in the drive until it is laid back or moved to the
-- bin. Public contracts cite it.
use Rattle.std.specs.Prelude.{◌≡◌, ℕ, drop, List, [], ◌∷◌, Option, Some, None, IsSome}
use Rattle.drives.specs.TapeLibrary.{ReelSlot, Drive, LibraryOf, drive_at, latched_at}
use Rattle.rmt_server.specs.Session.{PlainSession}
use Rattle.rmt_server.specs.Session.PlainSession.{Idle, Offline, Online}
use Rattle.rmt_server.specs.ServerState.{ServerConnection}
use Rattle.world_host.specs.Servers.{side_at}

-- each of these slots has its reel
abbrev pub AreInSlots : {X : Type 0} → List (ReelSlot X) → Type 0
AreInSlots [] = Unit {0}
AreInSlots (x ∷ xs) = IsSome x.reel × AreInSlots xs

-- each slot of the stacks of these drives has its reel
abbrev pub AreStacksInSlots : {X : Type 0} → List (Drive X) → Type 0
AreStacksInSlots [] = Unit {0}
AreStacksInSlots (r ∷ drives) = AreInSlots r.stack × AreStacksInSlots drives

-- no reel is latched: each slot has its reel
abbrev pub AreAllInSlots : {X : Type 0} → LibraryOf X → Type 0
AreAllInSlots s = AreStacksInSlots s.drives × AreInSlots s.bin

-- the drive that a session has open with its reel
abbrev pub online_drive_in : PlainSession → Option ℕ
online_drive_in Idle = None
online_drive_in (Offline drive access) = None
online_drive_in (Online drive access reel) = Some drive

-- the drive that the server's side of a connection, if it is live, has open with its reel
abbrev pub online_by : Option ServerConnection → Option ℕ
online_by None = None
online_by (Some s) = online_drive_in s.session

-- a live server's side has drive `d` open with its reel
abbrev pub IsOnlineAt : List (Option ServerConnection) → ℕ → Type 0
IsOnlineAt sides d = (k : ℕ) × (online_by (side_at sides k) ≡ Some d)

-- Every slot has its reel, except that the first of a stack can be away, and only if `away` holds
-- of the drive.
pub record AreInSlotsExcept {X : Type 0} (s : LibraryOf X) (away : ℕ → Type 0) : Type 0 where
  pub bin : AreInSlots s.bin
  pub below : (d : ℕ) → AreInSlots (drop 1 (drive_at s d).stack)
  pub first : (d : ℕ) → IsSome (latched_at s d) → away d
