-- Each request that is carried out is a serve step where stacks and reel tell.
use Rattle.std.proofs.Common.{ap, ◌≡◌, ℕ, Bool, true, false, IsTrue, List, Option, Some, None, Result, Ok, Err, refl, ◌∙◌, inl, inr, arith}
use Rattle.rmt_server.proofs.Names.{PlainRequest, Open, Close, Op, PlainReply, TapeAnswer, Fault, DriveFault, Device, Kinds, drive_asked}
use Rattle.rmt_server.proofs.Names.{found_in_open, Access, Opened, access_of, SessionView, session_view, plain_reel, status_of, refusal, is_offline}
use Rattle.rmt_server.proofs.Names.{closed, session_after, ReelStep, move_reply, ServeStep, Offline, Online, State, drive_of, status_at, IsAt}
use Rattle.rmt_server.proofs.Names.{HasView, SessionCanFail, IsClosed, Closes, OpensFor, IsTakenOff, Serves, Operates, CarriesOut, HasTrouble}
use Rattle.rmt_server.proofs.Names.{is_of_stacks, IsServed, TakesFor, SeatSteps, IsCarriedOut, view_after_close, MovesOff}
use Rattle.tape.specs.declared.fault.TapeFault.TheVariants as fault
use Rattle.rmt_server.proofs.Opens.{is_device, latch_failed, plainly, open_seen}
use Rattle.rmt_server.proofs.Outcomes.{IsRefused, IsCalled, is_of_reel, serves_is, moves_is, closes_is, carried_by, status_seen}
use Rattle.rmt_server.proofs.Sound.{carried_sound}

-- the reel's device is at fault
abbrev is_reel_device : TapeAnswer → Bool
is_reel_device (Fault fault.Device) = true
is_reel_device answer = false

-- the device of the stacks is at fault
abbrev is_move_device : DriveFault → Bool
is_move_device Device = true
is_move_device why = false

module _ {H S Seat R : Type 0} (k : Kinds H Seat S R) (old : State H S Seat R) (before : SessionView) (tells : HasView k old before) where
  -- a request that takes no drive
  served : (request : PlainRequest) (reply : PlainReply) (new : State H S Seat R) (after : SessionView) (troubled : Bool) → HasView k new after
      → (IsTrue troubled → HasTrouble k (is_of_stacks request) old new × SessionCanFail k old)
      → ServeStep troubled k.reels.GROWS None 0 before request reply after → IsServed k old request reply new before
  served request reply new after troubled seen trouble step = record {
    after = after;
    tells = seen;
    troubled = troubled;
    trouble = λ t. (trouble t).0;
    able = λ t. (trouble t).1;
    asked = None;
    found = 0;
    seat = λ d x. absurd cc;
    told = λ d n x. absurd cc;
    taken = λ x. absurd (omega arith);
    step = step;
  }

  -- what the checks see
  checked : (request : PlainRequest) → refusal (status_of before.session) request ≡ refusal (status_at old.opened) request
  checked request = ap (λ s. refusal s request) (status_seen k.reels old.opened before.session tells.session)

  -- a refused request
  refused_step : (request : PlainRequest) (reply : PlainReply) (new : State H S Seat R)
      → IsRefused (refusal (status_at old.opened) request) reply old new
      → IsServed k old request reply new before
  refused_step request reply new x =
      served request reply new before false (rw x.3 tells) (λ t. absurd cc) (grind (arith, checked request))

  reel_step : (request : PlainRequest) (reply : PlainReply) (troubled : Bool) (after : SessionView) → IsTrue (is_of_reel request)
      → refusal (status_of before.session) request ≡ None
      → ReelStep troubled k.reels.GROWS before request reply after → ServeStep troubled k.reels.GROWS None 0 before request reply after
  reel_step request reply troubled after its free step = grind arith

  -- a request that called the open reel
  called_step : (request : PlainRequest) (reply : PlainReply) (new : State H S Seat R) → new.drives ≡ old.drives → IsTrue (is_of_reel request)
      → IsCalled k.reels old.opened new.opened request reply → IsServed k old request reply new before
  called_step request reply new n its c =
      let s = rw c.opens at tells.session in
      let u = c.call.step s.0 s.1 in
      let after = session_view before.library (Online c.device.drive c.device.access (plain_reel u.0 (k.reels.capacity c.moved))) in
      served request reply new after (is_reel_device c.answer) (record { library = rw n tells.library; session = rw c.after (u.0, u.1, refl) })
      (grind (arith, c.call.device, c.call.able))
      (reel_step request reply (is_reel_device c.answer) after its (checked request ∙ c.free) (
        c.device.drive,
        c.device.access,
        plain_reel s.0 (k.reels.capacity c.reel),
        c.answer,
        u.0,
        s.2,
        u.2,
        grind (arith, c.call.memory),
        c.replied,
        rw c.call.same_capacity refl,
      ))

  -- an open, once what was open is closed
  opens : (device : List ℕ) (mode : ℕ) (access : Option Access) → access_of mode ≡ access → (reply : PlainReply) (between new : State H S Seat R)
      → IsClosed k old between → OpensFor k between device access reply new → IsServed k old (Open device mode) reply new before
  opens device mode None a reply between new c (e, n) =
      served (Open device mode) reply new (closed before) false (rw n (record { library = c.step before tells; session = rw c.nothing refl }))
      (λ t. absurd cc) (rw a (e, refl))
  opens device mode (Some access) a reply between new c (result, e, o) =
      let asked : Option ℕ = drive_asked result (k.holds.shows new.seat) in
      let st = o.opening.step (closed before).library (c.step before tells) in
      let (t, step, seen) = open_seen k.reels device access asked result (closed before).library st.0 st.2 in
      let failed = latch_failed k between.drives.stacks asked result new.drives.stacks o.opening.call in
      record {
        after = session_view st.0 (session_after access (plainly k.reels t result));
        tells = record { library = st.1; session = rw o.opens seen };
        troubled = is_device result;
        trouble = λ t. omega (arith, c.kept.counted, (failed t).0);
        able = λ t. c.quiet (inl (failed t).1);
        asked = asked;
        found = found_in_open result;
        seat = grind arith;
        told = λ d n x t. o.opening.found d _ x (c.told d n t);
        taken = grind (arith, o.opening.view, o.opening.asked, c.kept.same_holds);
        step = rw a (plainly k.reels t result, step, grind arith, grind (arith, o.opening.view), e ∙ grind arith, refl);
      }

  -- a request that the reel serves, which a check refused or which called it
  serves_reel : (request : PlainRequest) (reply : PlainReply) (new : State H S Seat R) → IsTrue (is_of_reel request) → Serves k old request reply new
      → IsServed k old request reply new before
  serves_reel request reply new its (n, e, serves) = elim (serves_is k.reels old.opened new.opened request reply serves) [
    | inl x ↦ refused_step request reply new (x.0, x.1, x.2, rw (n, e, x.3) refl)
    | inr c ↦ called_step request reply new n its c
  ]

  closes : (reply : PlainReply) (new : State H S Seat R) → Closes k old reply new → IsServed k old Close reply new before
  closes reply new c = elim (closes_is k old new reply c) [
    | inl x ↦ refused_step Close reply new x
    | inr x ↦ served Close reply new (closed before) false (record { library = x.2.step before tells; session = rw x.2.nothing refl })
        (λ t. absurd cc)
        (grind (arith, checked Close))
  ]

  -- a reel that was taken off its drive, or stays
  taken : (op count : ℕ) (reply : PlainReply) (device : Opened R) (reel : R) (result : Result (Unit {0}) DriveFault) (new : State H S Seat R)
      → is_offline op ≡ true → refusal (status_of before.session) (Op op count) ≡ None → old.opened ≡ Some (record device { reel = Some reel })
      → reply ≡ move_reply count result → IsTakenOff k old device reel result new → IsServed k old (Op op count) reply new before
  taken op count reply device reel (Ok x) new off free o e m =
      let s = rw o at tells.session in
      let u = m.rewound.step s.0 s.1 in
      let v = m.call.step u.0 u.1 before.library tells.library in
      served (Op op count) reply new (session_view v.0 (Offline device.drive device.access)) false
      (record { library = v.1; session = rw m.opens refl }) (λ z. absurd cc)
      (rw (free, off) (
        device.drive,
        device.access,
        plain_reel s.0 (k.reels.capacity reel),
        Ok x,
        s.2,
        e,
        rw (v.2, u.2, m.rewound.same_capacity) refl,
      ))
  taken op count reply device reel (Err why) new off free o e m =
      let s = rw o at tells.session in
      let u = m.rewound.step s.0 s.1 in
      let v = m.call.step before.library tells.library in
      let after = session_view v.0 (Online device.drive device.access (plain_reel u.0 (k.reels.capacity m.rested))) in
      served (Op op count) reply new after (is_move_device why) (record { library = v.1; session = rw m.opens (u.0, u.1, refl) })
      (grind (arith, m.call.device, m.call.able)) (rw (free, off) (
        device.drive,
        device.access,
        plain_reel s.0 (k.reels.capacity reel),
        Err why,
        s.2,
        e,
        (grind (arith, m.call.can), v.2, rw (u.2, m.rewound.same_capacity) refl),
      ))

  moves : (op count : ℕ) (reply : PlainReply) (new : State H S Seat R) → is_offline op ≡ true → MovesOff k old op count reply new
      → IsServed k old (Op op count) reply new before
  moves op count reply new off m = elim (moves_is k old new reply op count m) [
    | inl x ↦ refused_step (Op op count) reply new x
    | inr c ↦ taken op count reply c.device c.reel c.result new off (checked (Op op count) ∙ c.free) c.opens c.replied c.taken
  ]

  serves_step : (request : PlainRequest) (reply : PlainReply) (new : State H S Seat R) → CarriesOut k old request reply new
      → IsServed k old request reply new before
  serves_step request reply new c =
      carried_by (λ r. IsServed k old r reply new before)
      (λ device mode (between, c, o). opens device mode (access_of mode) refl reply between new c o)
      (closes reply new) (λ op count. moves op count reply new) (λ r. serves_reel r reply new) request c

module _ {H S Seat R : Type 0} (k : Kinds H Seat S R) (old : State H S Seat R) where
  -- the steps of the seat
  opens_steps : (between new : State H S Seat R) (access : Option Access) (device : List ℕ) (reply : PlainReply)
      → k.holds.shows between.seat ≡ view_after_close (k.holds.shows old.seat) (drive_of old.opened) → OpensFor k between device access reply new
      → TakesFor (k.holds.shows old.seat) (drive_of old.opened) reply (k.holds.shows new.seat) (drive_of new.opened)
  opens_steps between new access device reply v o = grind arith

  closes_steps : (reply : PlainReply) (new : State H S Seat R) → Closes k old reply new
      → k.holds.shows new.seat ≡ view_after_close (k.holds.shows old.seat) (drive_of old.opened)
  closes_steps reply new c = grind arith

  op_seat : (offline : Bool) (op count : ℕ) (reply : PlainReply) (new : State H S Seat R) → Operates k offline old op count reply new
      → new.seat ≡ old.seat
  op_seat offline op count reply new m = grind arith

  carried_steps : (request : PlainRequest) (reply : PlainReply) (new : State H S Seat R) → CarriesOut k old request reply new
      → SeatSteps request (k.holds.shows old.seat) (drive_of old.opened) reply (k.holds.shows new.seat) (drive_of new.opened)
  carried_steps request reply new c = grind (arith, opens_steps, closes_steps, op_seat)

-- a request that was carried out, with all that follows
pub carried : {H S Seat R : Type 0} {k : Kinds H Seat S R} {old new : State H S Seat R} {request : PlainRequest} {reply : PlainReply}
    → IsAt k old → CarriesOut k old request reply new → IsCarriedOut k old request reply new
carried {k = k} {old = old} {new = new} {request = request} {reply = reply} at c =
    let sound = carried_sound k old request reply new at c in
    record {
      effect = c;
      step = λ before tells. serves_step k old before tells request reply new c;
      steps = carried_steps k old request reply new c;
      at = sound.at;
      kept = sound.kept;
      same_seats = sound.same_seats;
      quiet = sound.quiet;
    }
