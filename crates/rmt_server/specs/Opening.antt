-- How a session closes what it has open, and opens a drive. `k` has the promises of the kinds of
-- holds, stacks and reels. Public contracts cite it.
use Rattle.std.specs.Prelude.{◌≡◌, ℕ, Option, Some, None, MatchOption, Result, Ok, Err, List}
use Rattle.rmt_wire.specs.Reply.{PlainReply}
use Rattle.rmt_wire.specs.Reply.PlainReply.{Done}
use Rattle.tape.specs.Tape.TapeRequest.{Rewind}
use Rattle.tape.specs.Tape.TapeAnswer.{Done as Did}
use Rattle.tape.specs.declared.reel.Reel.{Ghosts as ReelPromise}
use Rattle.drives.specs.declared.fault.DriveFault.{DriveFault}
use Rattle.drives.specs.declared.view.View.{View}
use Rattle.drives.specs.Holding.{given, holder_after_give}
use Rattle.drives.specs.Calls.{StacksKind}
use Rattle.drives.specs.Calls.StacksCall.{LayBack}
use Rattle.drives.specs.Stacking.{IsStacksCall}
use Rattle.drives.specs.Opening.{Kinds, IsOpening}
use Rattle.rmt_server.specs.declared.access.Access.{Access}
use Rattle.rmt_server.specs.declared.refusal.Refusal.TheVariants.{Invalid, BadDescriptor}
use Rattle.rmt_server.specs.declared.session.session_state.Opened.{Opened}
use Rattle.rmt_server.specs.Access.{access_of}
use Rattle.rmt_server.specs.Refusals.{refused}
use Rattle.rmt_server.specs.Session.{SessionView, closed, open_reply}
use Rattle.rmt_server.specs.State.{State, drive_of, IsAt, HasView, SessionCanFail, IsReelCall, KeepsDrives}

-- The reel is rewound and laid back on its stack. If there is none, the stacks are unchanged.
abbrev pub LaysBack : {S R : Type 0} → StacksKind S R → ReelPromise R → S → ℕ → Option R → S → Type 0
LaysBack s r old drive None new = new ≡ old
LaysBack {R = R} s r old drive (Some reel) new =
    (rested : R) × IsReelCall r reel Rewind Did rested × IsStacksCall s r old (LayBack drive rested) new

-- If a device is open with its reel, the reel is rewound and laid back on its stack. Otherwise the
-- stacks are unchanged.
abbrev pub LaysBackOpened : {S R : Type 0} → StacksKind S R → ReelPromise R → S → Option (Opened R) → S → Type 0
LaysBackOpened s r old None new = new ≡ old
LaysBackOpened s r old (Some device) new = LaysBack s r old device.drive device.reel new

-- who holds drive d after the open drive was given back, if n held it before
abbrev pub holder_after_close : Option ℕ → ℕ → ℕ → ℕ
holder_after_close None d n = n
holder_after_close (Some drive) d n = holder_after_give drive d n

-- the view of the seat after the open drive was given back
abbrev pub view_after_close : View → Option ℕ → View
view_after_close v None = v
view_after_close v (Some drive) = given v drive

-- The open device was closed: its reel is back on the stack, and the drive is given back. If
-- nothing was open, nothing is done.
pub record IsClosed {H S Seat R : Type 0} (k : Kinds H Seat S R) (old new : State H S Seat R) : Type 0 where
  pub nothing : new.opened ≡ None
  pub at : IsAt k new
  -- there are no other calls of the reel and of the stacks
  pub laid : LaysBackOpened k.stacks k.reels old.drives.stacks old.opened new.drives.stacks
  -- the stack has the contents of the reel, if those of stacks and reel are specified
  pub step : (v : SessionView) → HasView k old v → k.stacks.holds new.drives.stacks (closed v).library
  -- the seat gives back the open drive, and its holder is 0 then
  pub view : k.holds.shows new.seat ≡ view_after_close (k.holds.shows old.seat) (drive_of old.opened)
  pub told : (d n : ℕ) → k.holds.tells old.drives.holds d n
      → k.holds.tells new.drives.holds d (holder_after_close (drive_of old.opened) d n)
  pub kept : KeepsDrives k old new
  -- no seat number is assigned
  pub same_seats : k.holds.seated new.drives.holds ≡ k.holds.seated old.drives.holds
  -- a device can fail afterwards only if one could before
  pub quiet : SessionCanFail k new → SessionCanFail k old
  -- the device of the stacks is not called
  pub unfailed : k.stacks.failures new.drives.stacks ≡ k.stacks.failures old.drives.stacks
  pub idle : old.opened ≡ None → new ≡ old

-- A close. If nothing is open, it is refused and nothing is done.
abbrev pub Closes : {H S Seat R : Type 0} → Kinds H Seat S R → State H S Seat R → PlainReply → State H S Seat R → Type 0
Closes k old reply new =
    MatchOption old.opened ((reply ≡ refused BadDescriptor) × (new ≡ old)) (λ device. (reply ≡ Done 0) × IsClosed k old new)

-- what is open after an open with this result
abbrev pub opened_by : {R : Type 0} → Access → Result (ℕ × R) DriveFault → Option (Opened R)
opened_by access (Ok taken) = Some (record { drive = taken.0; access = access; reel = Some taken.1 })
opened_by access (Err fault) = None

-- What an open of a drive does while nothing is open. `result` is the result of the drives.
pub record IsOpenedFor {H S Seat R : Type 0} (k : Kinds H Seat S R) (old : State H S Seat R) (device : List ℕ) (access : Access)
    (result : Result (ℕ × R) DriveFault) (new : State H S Seat R) : Type 0 where
  pub opens : new.opened ≡ opened_by access result
  pub opening : IsOpening k old.drives old.seat device result new.drives new.seat
  pub at : IsAt k new
  pub kept : KeepsDrives k old new
  pub quiet : SessionCanFail k new → SessionCanFail k old

-- An open while nothing is open. If the mode has no access, nothing is done.
abbrev pub OpensFor : {H S Seat R : Type 0} → Kinds H Seat S R → State H S Seat R → List ℕ → Option Access → PlainReply
    → State H S Seat R → Type 0
OpensFor k old device None reply new = (reply ≡ refused Invalid) × (new ≡ old)
OpensFor {R = R} k old device (Some access) reply new =
    (result : Result (ℕ × R) DriveFault) × (reply ≡ open_reply result) × IsOpenedFor k old device access result new

-- An open. The session first closes the device that it has open, if any.
abbrev pub OpensDevice : {H S Seat R : Type 0} → Kinds H Seat S R → State H S Seat R → List ℕ → ℕ → PlainReply
    → State H S Seat R → Type 0
OpensDevice {H} {S} {Seat} {R} k old device mode reply new =
    (between : State H S Seat R) × IsClosed k old between × OpensFor k between device (access_of mode) reply new
