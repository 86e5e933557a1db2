-- The effect of each request on four things: the session's drives, other drives, the devices that can fail, and other seats that hold a drive.
use Rattle.std.proofs.Common.{◌≡◌, ℕ, ◌<◌, Bool, IsTrue, List, Option, Some, None, Result, inl, inr, arith}
use Rattle.std.proofs.lemmas.Grind.{common_steps}
use Rattle.rmt_server.proofs.Names.{PlainRequest, PlainReply, ReelPromise, DriveFault, ReelCanFail, Kinds, holder_after_open, Access, Opened}
use Rattle.rmt_server.proofs.Names.{access_of, SessionView, State, drive_of, online_drive, reel_of, IsAt, SessionCanFail, KeepsDrives}
use Rattle.rmt_server.proofs.Names.{holder_after_close, IsClosed, OpensFor, ReelServes, Serves, CarriesOut, IsAlone, MayShare, IsServed, IsCarriedOut}
use Rattle.rmt_server.proofs.Names.{MovesOff, Closes, IsTakenOff}
use Rattle.rmt_server.proofs.Outcomes.{moves_is, closes_is, carried_by}

pub record IsSound {H S Seat R : Type 0} (k : Kinds H Seat S R) (old new : State H S Seat R) : Type 0 where
  pub at : IsAt k new
  pub kept : KeepsDrives k old new
  pub same_seats : k.holds.seated new.drives.holds ≡ k.holds.seated old.drives.holds
  pub quiet : SessionCanFail k new → SessionCanFail k old

-- what a request that the reel serves leaves open
pub serves_same : {R : Type 0} (r : ReelPromise R) (opened new : Option (Opened R)) (request : PlainRequest) (reply : PlainReply)
    → ReelServes r opened new request reply → (drive_of new ≡ drive_of opened) × (online_drive new ≡ online_drive opened)
serves_same r opened new request reply serves = grind arith

pub serves_quiet : {R : Type 0} (r : ReelPromise R) (opened new : Option (Opened R)) (request : PlainRequest) (reply : PlainReply)
    → ReelServes r opened new request reply → ReelCanFail r (reel_of new) → ReelCanFail r (reel_of opened)
serves_quiet r opened new request reply serves f = grind arith

module _ {H S Seat R : Type 0} (k : Kinds H Seat S R) (old : State H S Seat R) (at : IsAt k old) where
  sound_same : (new : State H S Seat R) → new ≡ old → IsSound k old new
  sound_same new e = grind arith

  serves_sound : (request : PlainRequest) (reply : PlainReply) (new : State H S Seat R) → Serves k old request reply new → IsSound k old new
  serves_sound request reply new serves =
      grind (arith, serves_same k.reels old.opened new.opened request reply, serves_quiet k.reels old.opened new.opened request reply)

  moved_sound : (device : Opened R) (reel : R) (result : Result (Unit {0}) DriveFault) (new : State H S Seat R)
      → old.opened ≡ Some (record device { reel = Some reel }) → IsTakenOff k old device reel result new → IsSound k old new
  moved_sound device reel result new o m = grind arith

  moves_sound : (op count : ℕ) (reply : PlainReply) (new : State H S Seat R) → MovesOff k old op count reply new → IsSound k old new
  moves_sound op count reply new m = elim (moves_is k old new reply op count m) [
    | inl x ↦ sound_same new x.3
    | inr c ↦ moved_sound c.device c.reel c.result new c.opens c.taken
  ]

  closes_sound : (reply : PlainReply) (new : State H S Seat R) → Closes k old reply new → IsSound k old new
  closes_sound reply new c = grind arith

  opens_sound : (device : List ℕ) (access : Option Access) (reply : PlainReply) (new : State H S Seat R) → OpensFor k old device access reply new
      → IsSound k old new
  opens_sound device access reply new o = grind (arith, sound_same new)

-- what is done once what was open is closed
sound_then : {H S Seat R : Type 0} (k : Kinds H Seat S R) (old between new : State H S Seat R) → IsClosed k old between → IsSound k between new
    → IsSound k old new
sound_then k old between new c b = grind arith

-- each request leaves it so
pub carried_sound : {H S Seat R : Type 0} (k : Kinds H Seat S R) (old : State H S Seat R) (request : PlainRequest) (reply : PlainReply)
    (new : State H S Seat R) → IsAt k old → CarriesOut k old request reply new → IsSound k old new
carried_sound k old request reply new at c =
    carried_by (λ r. IsSound k old new)
    (λ device mode (between, c, o). sound_then k old between new c (opens_sound k between c.at device (access_of mode) reply new o))
    (closes_sound k old at reply new) (λ op count off m. moves_sound k old at op count reply new m)
    (λ r its s. serves_sound k old at r reply new s) request c

-- once the open drive was given back, a drive that was free or open is free
free_closed : (drive : Option ℕ) (d n : ℕ) → (0 < n → drive ≡ Some d) → holder_after_close drive d n ≡ 0
free_closed drive d n h = grind (arith, common_steps)

module _ {H S Seat R : Type 0} (k : Kinds H Seat S R) where
  -- all drives are free
  abbrev AllFree : State H S Seat R → Type 0
  AllFree x = (d : ℕ) → d < k.holds.drives x.drives.holds → k.holds.tells x.drives.holds d 0

  free_alone : (x : State H S Seat R) → AllFree x → IsAlone k x
  free_alone x free d l = (0, free d l, λ x. absurd (omega arith))

  -- after an open a drive that was free is free, or it is the one that is open
  opens_alone : (old : State H S Seat R) (access : Option Access) (device : List ℕ) (reply : PlainReply) (new : State H S Seat R)
      → AllFree old → OpensFor k old device access reply new → IsAlone k new
  opens_alone old None device reply new free (e, n) = rw n (free_alone old free)
  opens_alone old (Some access) device reply new free (result, e, o) = λ d l. (
    holder_after_open result (k.holds.shows old.seat).number d 0,
    o.opening.told d 0 (free d (rw o.kept.same_holds at l)),
    λ x. grind (arith, o.opens),
  )

  alone_closed : (old new : State H S Seat R) → IsAlone k old → IsClosed k old new → AllFree new
  alone_closed old new alone c d l =
      let w = alone d (rw c.kept.same_holds at l) in rw (free_closed (drive_of old.opened) d w.0 w.2) at (c.told d w.0 w.1)

  -- the same holds and the same open drive
  alone_same : (old new : State H S Seat R) → IsAlone k old → (new.drives.holds ≡ old.drives.holds) × (drive_of new.opened ≡ drive_of old.opened)
      → IsAlone k new
  alone_same old new alone (e, o) = rw (e, o) alone

  moves_same : (old new : State H S Seat R) (op count : ℕ) (reply : PlainReply) → MovesOff k old op count reply new
      → (new.drives.holds ≡ old.drives.holds) × (drive_of new.opened ≡ drive_of old.opened)
  moves_same old new op count reply m = grind arith

  closes_alone : (old new : State H S Seat R) (reply : PlainReply) → IsAlone k old → Closes k old reply new → IsAlone k new
  closes_alone old new reply alone c =
      elim (closes_is k old new reply c) [ inl x ↦ rw x.3 alone | inr x ↦ free_alone new (alone_closed old new alone x.2) ]

  alone_carried : (old new : State H S Seat R) (request : PlainRequest) (reply : PlainReply) → IsAlone k old → CarriesOut k old request reply new
      → IsAlone k new
  alone_carried old new request reply alone c =
      carried_by (λ r. IsAlone k new)
      (λ device mode (between, c, o). opens_alone between (access_of mode) device reply new (alone_closed old between alone c) o)
      (closes_alone old new reply alone) (λ op count off m. alone_same old new alone (moves_same old new op count reply m))
      (λ r its s. alone_same old new alone (grind (arith, serves_same k.reels old.opened new.opened r reply))) request c

module _ {H S Seat R : Type 0} {k : Kinds H Seat S R} {old new : State H S Seat R} {request : PlainRequest} {reply : PlainReply} {shared : Bool} where
  -- another seat may hold a drive after a request only where one may before
  pub may_share : MayShare k old shared → IsCarriedOut k old request reply new → MayShare k new shared
  may_share (inl shares) c = inl shares
  may_share (inr alone) c = inr (alone_carried k old new request reply alone c.effect)

  -- a take finds another seat only where one may hold a drive
  pub may_find : {before : SessionView} → MayShare k old shared → (v : IsServed k old request reply new before) → 0 < v.found → IsTrue shared
  may_find (inl shares) v x = shares
  may_find (inr alone) v x =
      let w = v.taken x in
      let known = alone w.0 w.2 in
      absurd (omega (arith, v.told w.0 known.0 w.1 known.1, free_closed (drive_of old.opened) w.0 known.0 known.2))
