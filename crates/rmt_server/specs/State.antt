-- A session at its drives: what it holds and has open, how it is viewed, and what each of its calls
-- preserves. A drive's latched reel is the first of its stack: it is in the drive until it is laid
-- back or moved to the bin. `k` has the promises of the kinds of holds, stacks and reels. Public
-- contracts cite it.
use Rattle.std.specs.Prelude.{◌≡◌, ◌≢◌, ◌⊎◌, ℕ, ◌<◌, ◌≤◌, Option, Some, None}
use Rattle.tape.specs.Tape.{Tape, TapeRequest, TapeAnswer}
use Rattle.tape.specs.Call.{IsTapeCall, reel_kind}
use Rattle.tape.specs.declared.reel.Reel.{Ghosts as ReelPromise}
use Rattle.drives.specs.declared.table.DriveTable.{DriveTable}
use Rattle.drives.specs.Holding.{HoldsJust}
use Rattle.drives.specs.Stacking.{HasLatched, ReelCanFail}
use Rattle.drives.specs.Opening.{Kinds}
use Rattle.rmt_server.specs.declared.access.Access.{Access}
use Rattle.rmt_server.specs.declared.session.session_state.Opened.{Opened}
use Rattle.rmt_server.specs.declared.session.session_state.SessionState.{SessionState}
use Rattle.rmt_server.specs.Session.{PlainSession, plain_reel, SessionView, Status, NothingOpen, ReelAway, Ready}
use Rattle.rmt_server.specs.Session.PlainSession.{Idle, Offline, Online}

-- drives, a seat at them, and what the seat has open
pub record State (H S Seat R : Type 0) : Type 0 where
  pub drives : DriveTable H S Seat R
  pub seat : Seat
  pub opened : Option (Opened R)

-- builds a State from its parts
abbrev pub seated_at : {H S Seat R : Type 0} → DriveTable H S Seat R → Seat → Option (Opened R) → State H S Seat R
seated_at drives seat opened = record { drives = drives; seat = seat; opened = opened }

-- the state of a session at these drives
abbrev pub state : {H S Seat R : Type 0} → DriveTable H S Seat R → SessionState Seat R → State H S Seat R
state drives session_state = seated_at drives session_state.seat session_state.opened

-- the drive that is open, if any
abbrev pub drive_of : {R : Type 0} → Option (Opened R) → Option ℕ
drive_of None = None
drive_of (Some device) = Some device.drive

-- the drive, if its reel is still in it, and None if the reel was moved to the bin
abbrev pub online_in : {R : Type 0} → ℕ → Option R → Option ℕ
online_in drive None = None
online_in drive (Some reel) = Some drive

-- the drive that is open with its reel, if any
abbrev pub online_drive : {R : Type 0} → Option (Opened R) → Option ℕ
online_drive None = None
online_drive (Some device) = online_in device.drive device.reel

-- the open reel, if any
abbrev pub reel_of : {R : Type 0} → Option (Opened R) → Option R
reel_of None = None
reel_of (Some device) = device.reel

-- the status of an open device, for the checks
abbrev pub status_in : {R : Type 0} → Access → Option R → Status
status_in access None = ReelAway
status_in access (Some reel) = Ready access

-- the status of what is open, for the checks
abbrev pub status_at : {R : Type 0} → Option (Opened R) → Status
status_at None = NothingOpen
status_at (Some device) = status_in device.access device.reel

-- `drive` is open, with `reel` in it
abbrev pub IsOnline : {R : Type 0} → Option (Opened R) → ℕ → R → Type 0
IsOnline opened drive reel = (access : Access) × (opened ≡ Some (record { drive = drive; access = access; reel = Some reel }))

-- The drives match the session. Its seat belongs to them and holds exactly the open drive. The open
-- reel is latched there, if the contents of the stacks are specified. The stacks have no more
-- drives than the holds.
pub record IsAt {H S Seat R : Type 0} (k : Kinds H Seat S R) (x : State H S Seat R) : Type 0 where
  pub own : k.holds.belongs x.drives.holds x.seat
  pub enough : k.stacks.drives x.drives.stacks ≤ k.holds.drives x.drives.holds
  pub held : HoldsJust (k.holds.shows x.seat) (drive_of x.opened)
  pub below : (d : ℕ) → drive_of x.opened ≡ Some d → d < k.stacks.drives x.drives.stacks
  pub latched : (d : ℕ) → online_drive x.opened ≡ Some d → HasLatched k.stacks.holds x.drives.stacks d

-- the view of an open device, if the contents of its reel are specified
abbrev pub IsSeenWith : {R : Type 0} → ReelPromise R → ℕ → Access → Option R → PlainSession → Type 0
IsSeenWith r drive access None session = session ≡ Offline drive access
IsSeenWith r drive access (Some reel) session =
    (t : Tape) × r.holds reel t × (session ≡ Online drive access (plain_reel t (r.capacity reel)))

-- the view of what is open, if the contents of its reel are specified
abbrev pub IsViewedAs : {R : Type 0} → ReelPromise R → Option (Opened R) → PlainSession → Type 0
IsViewedAs r None session = session ≡ Idle
IsViewedAs r (Some device) session = IsSeenWith r device.drive device.access device.reel session

-- the contents of the stacks and of the open reel are specified, and are this view
pub record HasView {H S Seat R : Type 0} (k : Kinds H Seat S R) (x : State H S Seat R) (v : SessionView) : Type 0 where
  pub library : k.stacks.holds x.drives.stacks v.library
  pub session : IsViewedAs k.reels x.opened v.session

-- a device can fail: that of the stacks, or that of the open reel
abbrev pub SessionCanFail : {H S Seat R : Type 0} → Kinds H Seat S R → State H S Seat R → Type 0
SessionCanFail k x = k.stacks.can_fail x.drives.stacks ⊎ ReelCanFail k.reels (reel_of x.opened)

-- one call of a reel, whose answer and reel afterwards the reel's promise allows
abbrev pub IsReelCall : {R : Type 0} → ReelPromise R → R → TapeRequest → TapeAnswer → R → Type 0
IsReelCall r old request answer new =
    IsTapeCall (reel_kind r.holds r.capacity r.failures r.can_fail r.makes r.GROWS) old new request answer

-- The numbers of drives are unchanged, the count of failures does not fall, and the seat keeps its
-- number. Other seats hold what they held. Reels stay latched in all drives that were not open
-- before or after.
pub record KeepsDrives {H S Seat R : Type 0} (k : Kinds H Seat S R) (old new : State H S Seat R) : Type 0 where
  pub number : (k.holds.shows new.seat).number ≡ (k.holds.shows old.seat).number
  pub others : (other : Seat) → (k.holds.shows other).number ≢ (k.holds.shows old.seat).number
      → k.holds.belongs old.drives.holds other → k.holds.belongs new.drives.holds other
  pub same_holds : k.holds.drives new.drives.holds ≡ k.holds.drives old.drives.holds
  pub same_stacks : k.stacks.drives new.drives.stacks ≡ k.stacks.drives old.drives.stacks
  pub counted : k.stacks.failures old.drives.stacks ≤ k.stacks.failures new.drives.stacks
  pub elsewhere : (d : ℕ) → drive_of old.opened ≢ Some d → drive_of new.opened ≢ Some d
      → HasLatched k.stacks.holds old.drives.stacks d → HasLatched k.stacks.holds new.drives.stacks d

-- The session's state matches any drives that its seat belongs to, if their stacks have no more
-- drives than their holds.
abbrev pub FitsItsDrives : {H S Seat R : Type 0} → Kinds H Seat S R → Seat → SessionState Seat R → Type 0
FitsItsDrives {H} {S} {Seat} {R} k seat session_state =
    (drives : DriveTable H S Seat R) → k.holds.belongs drives.holds seat → k.stacks.drives drives.stacks ≤ k.holds.drives drives.holds
    → IsAt k (state drives session_state)
