-- Which session has a drive open, the place of each reel, and what it holds. Public contracts cite
-- it.
use Rattle.std.specs.Prelude.{◌≡◌, ◌⊎◌, ℕ, suc, ◌<◌, List, [], ◌∷◌, length, slice_get, Option, Some, None}
use Rattle.tape.specs.Tape.{PlainEntry, entries_of}
use Rattle.drives.specs.TapeLibrary.{KeptReel, ReelSlot, TapeLibrary, drive_at, names_in, times}
use Rattle.rmt_server.specs.declared.access.Access.{Access}
use Rattle.rmt_server.specs.declared.access.Access.TheVariants.{Both}
use Rattle.rmt_server.specs.Session.{PlainReel, PlainSession}
use Rattle.rmt_server.specs.Session.PlainSession.{Idle, Offline, Online}
use Rattle.rmt_server.specs.TroubledServe.{drive_in}
use Rattle.rmt_server.specs.ServerState.{ServerState, ServerConnection}
use Rattle.world_model.specs.Changes.{side_of, first_name}

-- the session of connection `k` has drive `d` open, with its reel or without it
abbrev pub HasOpen : ServerState → ℕ → ℕ → Type 0
HasOpen h k d = (s : ServerConnection) × (side_of h k ≡ Some s) × (drive_in s.session ≡ Some d)

-- The holder of a drive is the connection whose live server's side has it open, with its reel or
-- without it. A drive that no session has open has no holder.
pub record AreHeld (h : ServerState) : Type 0 where
  pub places : length h.holders ≡ length h.library.drives
  pub opened : (k d : ℕ) (s : ServerConnection) → side_of h k ≡ Some s → drive_in s.session ≡ Some d → slice_get h.holders d ≡ Some k
  pub holds : (k d : ℕ) → slice_get h.holders d ≡ Some (suc k) → HasOpen h (suc k) d

-- the drive that a session has open with its reel
abbrev pub online_drive_in : PlainSession → Option ℕ
online_drive_in Idle = None
online_drive_in (Offline drive access) = None
online_drive_in (Online drive access reel) = Some drive

-- a session is online at drive `d`: it has the drive open with its reel
abbrev pub IsOnlineAt : ServerState → ℕ → Type 0
IsOnlineAt h d = (k : ℕ) × (s : ServerConnection) × (side_of h k ≡ Some s) × (online_drive_in s.session ≡ Some d)

-- the session has its drive open for reading and writing, with this reel
abbrev pub IsOnlineWith : PlainSession → PlainReel → Type 0
IsOnlineWith session reel = (drive : ℕ) × (session ≡ Online drive Both reel)

-- each of these slots has its reel
abbrev pub AreThere : List (ReelSlot KeptReel) → Type 0
AreThere [] = Unit {0}
AreThere (first ∷ rest) = ((reel : KeptReel) × (first.reel ≡ Some reel)) × AreThere rest

-- the first reel is away from its slot, and no other
abbrev pub IsFirstAway : List (ReelSlot KeptReel) → Type 0
IsFirstAway [] = ⊥
IsFirstAway (first ∷ rest) = (first.reel ≡ None) × AreThere rest

-- the library has a reel of that name, on a stack, in a drive or in the bin
abbrev pub HasReel : TapeLibrary → List ℕ → Type 0
HasReel s name = 0 < times name (names_in s)

-- the slot has a reel of that name, with these entries
pub record IsReelOf (x : ReelSlot KeptReel) (name : List ℕ) (entries : List PlainEntry) : Type 0 where
  pub named : x.name ≡ name
  pub reel : KeptReel
  pub there : x.reel ≡ Some reel
  pub holds : reel.entries ≡ entries

-- one of these slots has a reel of that name, with these entries
abbrev pub ReelLiesIn : List (ReelSlot KeptReel) → List ℕ → List PlainEntry → Type 0
ReelLiesIn [] name entries = ⊥
ReelLiesIn (x ∷ xs) name entries = IsReelOf x name entries ⊎ ReelLiesIn xs name entries

-- a reel of that name, with these entries, is in a slot of a stack or of the bin
abbrev pub ReelLiesOn : TapeLibrary → List ℕ → List PlainEntry → Type 0
ReelLiesOn s name entries = ((d : ℕ) × ReelLiesIn (drive_at s d).stack name entries) ⊎ ReelLiesIn s.bin name entries

-- The session is online. The reel in its drive, which is the first of the drive's stack, has that
-- name and these entries.
abbrev pub HasInDrive : TapeLibrary → PlainSession → List ℕ → List PlainEntry → Type 0
HasInDrive s session name entries =
    (drive : ℕ) × (access : Access) × (reel : PlainReel) × (session ≡ Online drive access reel)
    × (first_name (drive_at s drive).stack ≡ name) × (entries_of reel.tape ≡ entries)

-- the session of a live server's side has that reel in its drive
abbrev pub IsInDrive : ServerState → List ℕ → List PlainEntry → Type 0
IsInDrive h name entries = (k : ℕ) × (s : ServerConnection) × (side_of h k ≡ Some s) × HasInDrive h.library s.session name entries

-- The reel of that name, wherever it is, holds these entries.
abbrev pub ReelHolds : ServerState → List ℕ → List PlainEntry → Type 0
ReelHolds h name entries = ReelLiesOn h.library name entries ⊎ IsInDrive h name entries

-- The reel of that name holds these entries, and no others.
abbrev pub ReelHoldsJust : ServerState → List ℕ → List PlainEntry → Type 0
ReelHoldsJust h name entries = ReelHolds h name entries × ((others : List PlainEntry) → ReelHolds h name others → others ≡ entries)
