-- Each request of a session over drives and reels in memory, where it is told how the device call fails that it makes.
use Rattle.std.proofs.Common.{◌≡◌, ℕ, Bool, true, false, IsTrue, List, Option, Some, None, MatchOption, Result, Ok, Err, IfOk, refl, sym, ap, ◌∙◌}
use Rattle.std.proofs.Common.{inl, inr, ◌<◌, length, slice_index, arith}
use Rattle.std.proofs.lemmas.List.{length-map}
use Rattle.rmt_server.proofs.Names.{MovesOff, PlainRequest, Open, Close, Op, PlainReply, TroubledTape, Trouble, NoTrouble, of_reel, DriveFault}
use Rattle.rmt_server.proofs.Names.{Device, TapeLibrary, ListLibrary, troubled_in, is_set, Opened, SessionView, session_view, plain_reel, status_of}
use Rattle.rmt_server.proofs.Names.{refusal, is_offline, closed, move_reply, Offline, Online, drive_of, online_drive, reel_of, status_at, IsAt}
use Rattle.rmt_server.proofs.Names.{IsViewedAs, HasView, IsClosed, Closes, IsTakenOff, Serves, MemoryState, in_memory, drive_in, with_holder}
use Rattle.rmt_server.proofs.Names.{TroubledReelStep, TroubledServeStep, IsTroubled, IsSpent, IsServedUnder, View, rest_drive, OpenStep, SeatStep}
use Rattle.rmt_server.proofs.Names.{LatchesFor, drive_asked, found_in_open, Access, access_of, open_reply, session_after, opened_by, OpensFor}
use Rattle.rmt_server.proofs.Names.{holder_of, IsOpenCause, IsSetFor, IsNextSpent, HasReelAt, PlainSession, LayBack, Latch, Move, MovesTroubles}
use Rattle.rmt_server.proofs.Names.{StacksCall, IsListStacksCall, of_stacks, Holders, IsHeldBy, holder_after_open}
use Rattle.rmt_server.proofs.Outcomes.{IsRefused, IsCalled, is_of_reel, serves_is, moves_is, closes_is, carried_by, status_seen}
use Rattle.rmt_server.proofs.Sharing.{open_held}
use Rattle.std.proofs.lemmas.Bool.Decides.{nat_tests}
use Rattle.std.proofs.lemmas.Grind.{elements}
use Rattle.rmt_server.proofs.Opens.{plainly, open_seen}
use Rattle.rmt_server.specs.Laws.{TroublesAreServed, EndsUntroubled}

-- how many reels lie with a trouble after each call, as `drives::lying_troubles` says
abbrev pub LyingLaw : Type 0
LyingLaw = record {
  latched : (old new : ListLibrary) (d : ℕ) (result : Result TroubledTape DriveFault) → d < length old.library.drives
      → MovesTroubles old (Latch d result) new;
  laid_back : (old new : ListLibrary) (d : ℕ) (reel : TroubledTape) → HasReelAt old d → MovesTroubles old (LayBack d reel) new;
  moved : (old new : ListLibrary) (d : ℕ) (reel : TroubledTape) (result : Result (Unit {0}) DriveFault) → HasReelAt old d
      → MovesTroubles old (Move d reel result) new;
  same_drives : (old new : ListLibrary) (call : StacksCall TroubledTape) → IsListStacksCall old new call
      → length new.library.drives ≡ length old.library.drives;
}

-- a drive that was taken has the seat that took it
opened_numbers : (access : Access) (result : Result (ℕ × TroubledTape) DriveFault) (number : ℕ) (old new : Holders)
    → length new.numbers ≡ length old.numbers
    → ((d n : ℕ) → IsHeldBy old d n → IsHeldBy new d (holder_after_open result number d n))
    → IfOk result (λ opened. slice_index old.numbers opened.0 ≡ 0)
    → new.numbers ≡ with_holder (drive_of (opened_by access result)) number old.numbers
opened_numbers access result number old new same told free =
    let taken = λ (d : ℕ) (l : d < length old.numbers). (told d (slice_index old.numbers d) (l, refl)).1 in grind (arith, elements, nat_tests, taken)

-- the drive that is open is seen as it is
drive_seen : (opened : Option (Opened TroubledTape)) (session : PlainSession) → IsViewedAs of_reel opened session → drive_in session ≡ drive_of opened
drive_seen opened session seen = grind arith

-- the trouble of a request that the open reel serves is set for that reel
set_reel : (trouble : Trouble) (request : PlainRequest) (x : MemoryState) → IsTrue (is_of_reel request) → IsSetFor trouble request x
    → IsTroubled trouble false x
set_reel trouble request x its set = grind arith

-- why an open answered so, that a drive which it opened had no holder, and which troubles it leaves
record IsOpenLeft (trouble : Trouble) (numbers : List ℕ) (access : Access) (asked : Option ℕ) (result : Result (ℕ × TroubledTape) DriveFault)
    (old new : ListLibrary) : Type 0 where
  cause : IsOpenCause trouble (holder_of numbers asked) result
  free : IfOk result (λ opened. slice_index numbers opened.0 ≡ 0)
  lying : troubled_in new.library ≡ 0
  online : (reply : PlainReply) → MatchOption (reel_of (opened_by access result)) (Unit {0}) (λ r. IsSpent NoTrouble reply r.trouble)
  next : IsNextSpent old.trouble (open_reply result) new.trouble

open_left : (law : LyingLaw) (trouble : Trouble) (numbers device : List ℕ) (access : Access) (asked : Option ℕ)
    (result : Result (ℕ × TroubledTape) DriveFault) (v w : View) (old new : ListLibrary) (library library' : TapeLibrary)
    → OpenStep of_reel.holds of_reel.capacity device asked result library library' → SeatStep result v w → LatchesFor in_memory old asked result new
    → ((d : ℕ) → asked ≡ Some d → found_in_open result ≡ slice_index numbers d) → old.trouble ≡ is_set trouble
    → ((d : ℕ) → asked ≡ Some d → d < length old.library.drives) → troubled_in old.library ≡ 0
    → IsOpenLeft trouble numbers access asked result old new
open_left law trouble numbers device access asked result v w old new library library' h s call found set below none =
    let latched = λ (d : ℕ) (r : Result TroubledTape DriveFault) (e : asked ≡ Some d). law.latched old new d r (below d e) in
    grind (arith, latched, found)

module _ (law : LyingLaw) (trouble : Trouble) (old : MemoryState) (before : SessionView) (at : IsAt in_memory old)
    (tells : HasView in_memory old before) where
  -- the open reel is latched at its drive
  reel_at : (d : ℕ) → online_drive old.opened ≡ Some d → HasReelAt old.drives.stacks d
  reel_at d e = (grind (arith, at.below d), before.library, tells.library, at.latched d e)

  -- where drives and seat are as before, and the same drive is open
  held_same : (new : MemoryState) (after : SessionView) → new.drives.holds ≡ old.drives.holds → drive_of new.opened ≡ drive_of old.opened
      → HasView in_memory new after
      → new.drives.holds.numbers
      ≡ with_holder (drive_in after.session) old.seat.number (with_holder (drive_in before.session) 0 old.drives.holds.numbers)
  held_same new after h d seen =
      let own = λ (d : ℕ) (e : drive_of old.opened ≡ Some d).
      (open_held of_stacks of_reel old.drives (record { seat = old.seat; opened = old.opened }) d at e).1 in
      rw (h, drive_seen new.opened after.session seen.session, d, drive_seen old.opened before.session tells.session)
      (grind (arith, elements, nat_tests, own))

  -- what the checks see
  checked : (request : PlainRequest) → refusal (status_of before.session) request ≡ refusal (status_at old.opened) request
  checked request = ap (λ s. refusal s request) (status_seen of_reel old.opened before.session tells.session)

  -- a refused request
  refused_so : (request : PlainRequest) (reply : PlainReply) (new : MemoryState) → IsRefused (refusal (status_at old.opened) request) reply old new
      → IsSetFor trouble request old → IsServedUnder trouble old before request reply new
  refused_so request reply new x set = rw x.3 (record {
    after = before;
    tells = tells;
    served = record { step = grind (arith, checked request); held = held_same old before refl refl tells };
    lying = grind (arith, set);
    online = grind (arith, set);
    next = inl refl;
  })

  reel_step : (request : PlainRequest) (reply : PlainReply) (after : SessionView) (holders : List ℕ) → IsTrue (is_of_reel request)
      → refusal (status_of before.session) request ≡ None → TroubledReelStep trouble before request reply after
      → TroubledServeStep trouble holders before request reply after
  reel_step request reply after holders its free step = grind arith

  called_so : (request : PlainRequest) (reply : PlainReply) (new : MemoryState) → new.drives ≡ old.drives → IsTrue (is_of_reel request)
      → IsCalled of_reel old.opened new.opened request reply → IsTroubled trouble false old → IsServedUnder trouble old before request reply new
  called_so request reply new n its c set =
      let s = rw c.opens at tells.session in
      let same : c.reel.trouble ≡ trouble = rw c.opens at set.online in
      let after = session_view before.library (Online c.device.drive c.device.access (plain_reel c.moved.tape c.moved.capacity)) in
      let seen : HasView in_memory new after = record { library = rw n tells.library; session = rw c.after (c.moved.tape, refl, refl) } in
      record {
        after = after;
        tells = seen;
        served = record {
          step = reel_step request reply after old.drives.holds.numbers its (checked request ∙ c.free) (
            c.device.drive,
            c.device.access,
            plain_reel c.reel.tape c.reel.capacity,
            c.answer,
            c.moved.tape,
            rw s.1 s.2,
            rw same at c.call.made.step,
            c.replied,
            rw c.call.same_capacity refl,
          );
          held = held_same new after (rw n refl) (rw (c.after, c.opens) refl) seen;
        };
        lying = rw n set.lying;
        online = grind (arith, c.after, c.call.made.counted, c.call.made.step, c.replied, same);
        next = inl (rw n refl);
      }

  -- a request that the reel serves
  reel_so : (request : PlainRequest) (reply : PlainReply) (new : MemoryState) → IsTrue (is_of_reel request) → Serves in_memory old request reply new
      → IsTroubled trouble false old → IsServedUnder trouble old before request reply new
  reel_so request reply new its (n, e, serves) set = elim (serves_is of_reel old.opened new.opened request reply serves) [
    | inl x ↦ refused_so request reply new (x.0, x.1, x.2, rw (n, e, x.3) refl) (grind (arith, set))
    | inr c ↦ called_so request reply new n its c set
  ]

  -- what was open is closed
  pub closed_lying : (stacks : Bool) (new : MemoryState) → IsClosed in_memory old new → IsTroubled NoTrouble stacks old
      → (troubled_in new.drives.stacks.library ≡ 0) × (new.drives.stacks.trouble ≡ old.drives.stacks.trouble)
  closed_lying stacks new c set =
      let laid = λ (d : ℕ) (reel : TroubledTape) (e : online_drive old.opened ≡ Some d).
      law.laid_back old.drives.stacks new.drives.stacks d reel (reel_at d e) in
      grind (arith, laid)

  pub closed_held : (new : MemoryState) → IsClosed in_memory old new
      → new.drives.holds.numbers ≡ with_holder (drive_in before.session) 0 old.drives.holds.numbers
  closed_held new c =
      let told = λ (d : ℕ) (l : d < length old.drives.holds.numbers). (c.told d (slice_index old.drives.holds.numbers d) (l, refl)).1 in
      rw (drive_seen old.opened before.session tells.session) (grind (arith, elements, nat_tests, told, c.kept.same_holds))

  pub closed_tells : (new : MemoryState) → IsClosed in_memory old new → HasView in_memory new (closed before)
  closed_tells new c = record { library = c.step before tells; session = rw c.nothing refl }

  close_so : (reply : PlainReply) (new : MemoryState) → Closes in_memory old reply new → IsTroubled NoTrouble false old
      → IsServedUnder trouble old before Close reply new
  close_so reply new c set = elim (closes_is in_memory old new reply c) [
    | inl x ↦ refused_so Close reply new x set
    | inr x ↦ record {
      after = closed before;
      tells = closed_tells new x.2;
      served = record { step = rw (checked Close, x.0) (x.1, refl); held = closed_held new x.2 };
      lying = (closed_lying false new x.2 set).0;
      online = rw x.2.nothing tt;
      next = inl ((closed_lying false new x.2 set).1);
    }
  ]

  -- a reel that was taken off its drive, or stays
  taken_so : (op count : ℕ) (reply : PlainReply) (new : MemoryState) (device : Opened TroubledTape) (reel : TroubledTape)
      (result : Result (Unit {0}) DriveFault)
      → old.opened ≡ Some (record device { reel = Some reel }) → is_offline op ≡ true → refusal (status_of before.session) (Op op count) ≡ None
      → reply ≡ move_reply count result → IsTakenOff in_memory old device reel result new → IsTroubled NoTrouble (is_set trouble) old
      → IsServedUnder trouble old before (Op op count) reply new
  taken_so op count reply new device reel (Ok x) o off free e m set =
      let s = rw o at tells.session in
      let u = m.rewound.step s.0 s.1 in
      let v = m.call.step u.0 u.1 before.library tells.library in
      let lies : HasReelAt old.drives.stacks device.drive = reel_at device.drive (ap online_drive o) in
      let rested : m.rested.trouble ≡ NoTrouble = m.rewound.made.counted.0 ∙ rw o at set.online in
      let after : SessionView = session_view v.0 (Offline device.drive device.access) in
      let told : HasView in_memory new after = record { library = v.1; session = rw m.opens refl } in
      record {
        after = after;
        tells = told;
        served = record {
          step = rw (free, off) (
            device.drive,
            device.access,
            plain_reel s.0 reel.capacity,
            Ok x,
            s.2,
            grind (arith, set.next, m.call.made),
            e,
            rw (v.2, u.2, m.rewound.same_capacity) refl,
          );
          held = held_same new after m.same_holds (rw (m.opens, o) refl) told;
        };
        lying = grind (arith, law.moved _ _ _ m.rested (Ok x) lies m.call.made, set.lying, rested);
        online = rw m.opens tt;
        next = grind (arith, m.call.made);
      }
  taken_so op count reply new device reel (Err Device) o off free e m set =
      let s = rw o at tells.session in
      let u = m.rewound.step s.0 s.1 in
      let v = m.call.step before.library tells.library in
      let lies : HasReelAt old.drives.stacks device.drive = reel_at device.drive (ap online_drive o) in
      let rested : m.rested.trouble ≡ NoTrouble = m.rewound.made.counted.0 ∙ rw o at set.online in
      let after : SessionView = session_view v.0 (Online device.drive device.access (plain_reel u.0 m.rested.capacity)) in
      let told : HasView in_memory new after = record { library = v.1; session = rw m.opens (u.0, u.1, refl) } in
      record {
        after = after;
        tells = told;
        served = record {
          step = rw (free, off) (
            device.drive,
            device.access,
            plain_reel s.0 reel.capacity,
            Err Device,
            s.2,
            grind (arith, set.next, m.call.made),
            e,
            (sym set.next ∙ m.call.made.0, v.2, rw (u.2, m.rewound.same_capacity) refl),
          );
          held = held_same new after m.same_holds (rw (m.opens, o) refl) told;
        };
        lying = grind (arith, law.moved _ _ _ m.rested (Err Device) lies m.call.made, set.lying);
        online = rw (m.opens, off) (inl rested);
        next = grind (arith, m.call.made, e);
      }
  taken_so op count reply new device reel (Err why) o off free e m set = absurd m.call.made

  -- an open, once what was open is closed
  open_so : (device : List ℕ) (mode : ℕ) (access : Option Access) (reply : PlainReply) (between new : MemoryState) → access_of mode ≡ access
      → IsClosed in_memory old between → OpensFor in_memory between device access reply new → IsTroubled NoTrouble (is_set trouble) old
      → IsServedUnder trouble old before (Open device mode) reply new
  open_so device mode None reply between new a c (e, n) set = rw n (record {
    after = closed before;
    tells = closed_tells between c;
    served = record { step = rw a (e, refl); held = closed_held between c };
    lying = (closed_lying (is_set trouble) between c set).0;
    online = rw c.nothing tt;
    next = inl ((closed_lying (is_set trouble) between c set).1);
  })
  open_so device mode (Some access) reply between new a c (result, e, o) set =
      let asked : Option ℕ = drive_asked result new.seat in
      let st = o.opening.step (closed before).library (c.step before tells) in
      let closed_numbers = closed_held between c in
      let rest = closed_lying (is_set trouble) between c set in
      let found : (d : ℕ) → asked ≡ Some d → found_in_open result ≡ slice_index between.drives.holds.numbers d
      = λ d x. o.opening.found d (slice_index between.drives.holds.numbers d) x (o.opening.asked d x, refl) in
      let drives : length (closed before).library.drives ≡ length between.drives.stacks.library.drives
      = ap (λ (s : TapeLibrary). length s.drives) (c.step before tells).0 ∙ length-map between.drives.stacks.library.drives rest_drive in
      let left = open_left law trouble between.drives.holds.numbers device access asked result between.seat new.seat between.drives.stacks
      new.drives.stacks (closed before).library
      st.0 st.2 o.opening.view o.opening.call found (rest.1 ∙ set.next) (grind (arith, st.2)) rest.0 in
      let (t, step, seen) = open_seen of_reel device access asked result (closed before).library st.0 st.2 in
      let after : SessionView = session_view st.0 (session_after access (plainly of_reel t result)) in
      let told : HasView in_memory new after = record { library = st.1; session = rw o.opens seen } in
      record {
        after = after;
        tells = told;
        served = record {
          step = rw a (plainly of_reel t result, asked, step, grind (arith, left.cause, closed_numbers), e ∙ grind arith, refl);
          held = rw (drive_seen new.opened after.session told.session, o.opens, ← closed_numbers, ← c.kept.number)
              (opened_numbers access result between.seat.number between.drives.holds new.drives.holds o.opening.same_holds o.opening.told left.free);
        };
        lying = left.lying;
        online = rw o.opens (left.online reply);
        next = grind (arith, left.next, rest.1, e);
      }

  -- MTOFFL
  moves_so : (op count : ℕ) (reply : PlainReply) (new : MemoryState) → is_offline op ≡ true → MovesOff in_memory old op count reply new
      → IsSetFor trouble (Op op count) old → IsServedUnder trouble old before (Op op count) reply new
  moves_so op count reply new off m set = elim (moves_is in_memory old new reply op count m) [
    | inl x ↦ refused_so (Op op count) reply new x set
    | inr c ↦ taken_so op count reply new c.device c.reel c.result c.opens off (checked (Op op count) ∙ c.free) c.replied c.taken (rw off at set)
  ]

-- each request
pub all_served : LyingLaw → TroublesAreServed
all_served law trouble old new before request reply at tells set carried =
    carried_by (λ r. IsSetFor trouble r old → IsServedUnder trouble old before r reply new)
    (λ device mode (between, c, o). open_so law trouble old before at tells device mode (access_of mode) reply between new refl c o)
    (close_so law trouble old before at tells reply new) (λ op count. moves_so law trouble old before at tells op count reply new)
    (λ r its s set. reel_so law trouble old before at tells r reply new its s (set_reel trouble r old its set)) request carried.effect set

-- and the end of a session
pub all_ended : LyingLaw → EndsUntroubled
all_ended law stacks old new before at tells set c = record {
  tells = closed_tells law NoTrouble old before at tells new c;
  held = closed_held law NoTrouble old before at tells new c;
  lying = (closed_lying law NoTrouble old before at tells stacks new c set).0;
}
