-- What a session promises for each request, for all kinds of drives, seats and reels. `k` has the
-- promises of the kinds of holds, stacks and reels. Public contracts cite it.
use Rattle.std.specs.Prelude.{◌≡◌, ◌⊎◌, ℕ, ◌<◌, Bool, true, false, IsTrue, Option, Some, None}
use Rattle.rmt_wire.specs.Request.{PlainRequest}
use Rattle.rmt_wire.specs.Request.PlainRequest.{Open, Close, Op}
use Rattle.rmt_wire.specs.Reply.{PlainReply}
use Rattle.rmt_wire.specs.Reply.PlainReply.{Done}
use Rattle.tape.specs.Failures.{HasRisen, counted}
use Rattle.tape.specs.declared.reel.Reel.{Ghosts as ReelPromise}
use Rattle.drives.specs.declared.view.View.{View}
use Rattle.drives.specs.declared.view.StepKind.TheVariants.{Take}
use Rattle.drives.specs.Holding.{last_drive, last_step}
use Rattle.drives.specs.Opening.{Kinds}
use Rattle.rmt_server.specs.declared.refusal.Refusal.TheVariants.{Busy}
use Rattle.rmt_server.specs.Refusals.{refused}
use Rattle.rmt_server.specs.Session.{SessionView, is_offline, ServeStep}
use Rattle.rmt_server.specs.State.{State, drive_of, reel_of, IsAt, HasView, SessionCanFail, KeepsDrives}
use Rattle.rmt_server.specs.Opening.{Closes, OpensDevice, view_after_close, holder_after_close}
use Rattle.rmt_server.specs.Moving.{MovesOff}
use Rattle.rmt_server.specs.Serving.{Serves}

-- An operation. If the flag is set it is MTOFFL, which moves the reel. If not, the reel carries it
-- out.
abbrev pub Operates : {H S Seat R : Type 0} → Kinds H Seat S R → Bool → State H S Seat R → ℕ → ℕ → PlainReply
    → State H S Seat R → Type 0
Operates k true old op count reply new = MovesOff k old op count reply new
Operates k false old op count reply new = Serves k old (Op op count) reply new

-- What each request does, even if contents are unspecified.
abbrev pub CarriesOut : {H S Seat R : Type 0} → Kinds H Seat S R → State H S Seat R → PlainRequest → PlainReply
    → State H S Seat R → Type 0
CarriesOut k old (Open device mode) reply new = OpensDevice k old device mode reply new
CarriesOut k old Close reply new = Closes k old reply new
CarriesOut k old (Op op count) reply new = Operates k (is_offline op) old op count reply new
CarriesOut k old request reply new = Serves k old request reply new

-- the device of a reel failed, or its count of failures is at its greatest value
abbrev pub ReelFailed : {R : Type 0} → ReelPromise R → Option R → Option R → Type 0
ReelFailed r (Some reel) (Some moved) = HasRisen (r.failures reel) (r.failures moved)
ReelFailed r old new = ⊥

-- the device that the request uses failed: that of the stacks for an open and MTOFFL, otherwise
-- that of the open reel
abbrev pub HasTrouble : {H S Seat R : Type 0} → Kinds H Seat S R → Bool → State H S Seat R → State H S Seat R → Type 0
HasTrouble k true old new = HasRisen (k.stacks.failures old.drives.stacks) (k.stacks.failures new.drives.stacks)
HasTrouble k false old new = ReelFailed k.reels (reel_of old.opened) (reel_of new.opened)

-- whether the request uses the device of the stacks, as an open and MTOFFL do
abbrev pub is_of_stacks : PlainRequest → Bool
is_of_stacks (Open device mode) = true
is_of_stacks (Op op count) = is_offline op
is_of_stacks request = false

-- `fails` is true if a device can fail
abbrev pub MayFail : {H S Seat R : Type 0} → Kinds H Seat S R → State H S Seat R → Bool → Type 0
MayFail k x fails = SessionCanFail k x → IsTrue fails

-- the holds specify for each drive that it is free, or that it is the open one
abbrev pub IsAlone : {H S Seat R : Type 0} → Kinds H Seat S R → State H S Seat R → Type 0
IsAlone k x =
    (d : ℕ) → d < k.holds.drives x.drives.holds
    → (n : ℕ) × k.holds.tells x.drives.holds d n × (0 < n → drive_of x.opened ≡ Some d)

-- `shared` is true, or no other seat holds a drive
abbrev pub MayShare : {H S Seat R : Type 0} → Kinds H Seat S R → State H S Seat R → Bool → Type 0
MayShare k x shared = IsTrue shared ⊎ IsAlone k x

-- The view after the request is one serve step from `before`. The drive of an open is that of the
-- seat's last step. The number found there is the holder, if the holders are specified. If a seat
-- was found, the last step is the take that found it.
pub record IsServed {H S Seat R : Type 0} (k : Kinds H Seat S R) (old : State H S Seat R) (request : PlainRequest) (reply : PlainReply)
    (new : State H S Seat R) (before : SessionView) : Type 0 where
  pub after : SessionView
  pub tells : HasView k new after
  -- if a device failed, its count of failures rose, and it could fail before
  pub troubled : Bool
  pub trouble : IsTrue troubled → HasTrouble k (is_of_stacks request) old new
  pub able : IsTrue troubled → SessionCanFail k old
  pub asked : Option ℕ
  pub found : ℕ
  pub seat : (d : ℕ) → asked ≡ Some d → last_drive (k.holds.shows new.seat) ≡ Some d
  pub told : (d n : ℕ) → asked ≡ Some d → k.holds.tells old.drives.holds d n → found ≡ holder_after_close (drive_of old.opened) d n
  pub taken : 0 < found → (d : ℕ) × (asked ≡ Some d) × (d < k.holds.drives old.drives.holds)
      × ((k.holds.shows new.seat).last ≡ Some (last_step Take d found))
  pub step : ServeStep troubled k.reels.GROWS asked found before request reply after

-- the count of a seat's steps after one more step, or after two if a drive was given back first
abbrev pub steps_after : Option ℕ → ℕ → ℕ
steps_after None n = counted n
steps_after (Some drive) n = counted (counted n)

-- The seat's last step is a take of drive d that found n.
abbrev pub HasTaken : View → Option ℕ → ℕ → ℕ → View → Type 0
HasTaken before drive d n after = (after.last ≡ Some (last_step Take d n)) × (after.steps ≡ steps_after drive before.steps)

-- After an accepted open, the seat's last step is a take of the open drive that found no holder.
-- After an open that was refused as busy, it is a take that found another seat.
pub record TakesFor (before : View) (drive : Option ℕ) (reply : PlainReply) (after : View) (drive' : Option ℕ) : Type 0 where
  pub accepted : reply ≡ Done 0 → (d : ℕ) × (drive' ≡ Some d) × HasTaken before drive d 0 after
  pub busy : reply ≡ refused Busy → (d : ℕ) × (n : ℕ) × (0 < n) × HasTaken before drive d n after

-- the seat's steps at the drives: those of an open or of a close; other requests make none
abbrev pub SeatSteps : PlainRequest → View → Option ℕ → PlainReply → View → Option ℕ → Type 0
SeatSteps (Open device mode) before drive reply after drive' = TakesFor before drive reply after drive'
SeatSteps Close before drive reply after drive' = after ≡ view_after_close before drive
SeatSteps request before drive reply after drive' = after ≡ before

-- One request was carried out, with this reply.
pub record IsCarriedOut {H S Seat R : Type 0} (k : Kinds H Seat S R) (old : State H S Seat R) (request : PlainRequest)
    (reply : PlainReply) (new : State H S Seat R) : Type 0 where
  -- the effect, even if contents are unspecified
  pub effect : CarriesOut k old request reply new
  -- if the contents of stacks and reel are specified, this is a serve step
  pub step : (before : SessionView) → HasView k old before → IsServed k old request reply new before
  -- the steps of the seat at the drives
  pub steps : SeatSteps request (k.holds.shows old.seat) (drive_of old.opened) reply (k.holds.shows new.seat) (drive_of new.opened)
  -- the drives still match the session
  pub at : IsAt k new
  -- what belongs to others is unchanged, and the counts stay or rise
  pub kept : KeepsDrives k old new
  -- no seat number is assigned
  pub same_seats : k.holds.seated new.drives.holds ≡ k.holds.seated old.drives.holds
  -- a device can fail afterwards only if one could before
  pub quiet : SessionCanFail k new → SessionCanFail k old
