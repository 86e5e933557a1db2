-- Each request that reaches a session has a step, whatever trouble is set.
use Rattle.world_model.proofs.Basics.{◌≡◌, ◌≢◌, ◌⊎◌, ℕ, zero, suc, ◌+◌, ◌*◌, ◌<◌, ◌≤◌, Bool, true, false, IsTrue, List, [], ◌∷◌, ◌++◌, length, take, replicate, Option, Some, None, Ok, Err, MatchOption, refl, sym, ◌∙◌, inl, inr, arith, slice_index_or, bytes_eq, bytes_eq-Decides}
use Rattle.world_model.proofs.Terms.{PlainRequest, Op, PlainReply, Done, PlainEntry, Tape, TapeRequest, TapeAnswer, TapeStep, Passes, SpaceStep, tape, entries_of, offset_of, stands_at, Record, TapeWrite, TapeRead, WriteMarks, ForwardFiles, BackFiles, ForwardRecords, BackRecords, Nothing, Unknown, Did, Gave, Fault, ComesToDevice, DeviceStep, IsUntroubled, left_after, Trouble, KeptReel, Drive, drive_with, library, waiting_reel, after_latch, IsDriveNamed, is_set, Access, access_of, refused, PlainReel, plain_reel, PlainSession, SessionView, session_view, status_of, refusal, tape_request, closed, is_offline, Idle, Online, is_open, drive_in, with_holder, holder_of, TroubledReelStep, TroubledOpStep, TroubledDoneStep, TroubledOpenStep, TroubledServeStep}
use Rattle.std.proofs.lemmas.Bool.Decides.{leb_tells}
use Rattle.rmt_wire.specs.Request.PlainRequest.{Open, Close}
use Rattle.tape.specs.Tape.PlainEntry.{Mark}
use Rattle.tape.specs.Tape.TapeRequest.{Rewind}
use Rattle.tape.specs.declared.fault.TapeFault.TheVariants as fault
use Rattle.tape.specs.declared.trouble.Trouble.TheVariants as trouble
use Rattle.drives.specs.declared.fault.DriveFault.TheVariants as drive

or_above : (a b : ℕ) → (a ≤ b) ⊎ (b < a)
or_above a b = grind (arith, leb_tells)

none_or_set : (t : Trouble) → (t ≡ trouble.None) ⊎ ((t ≢ trouble.None) × IsTrue (is_set t))
none_or_set t = grind arith

-- a call of a tape has an answer
abbrev CanCall : ℕ → Trouble → Tape → TapeRequest → Type 0
CanCall capacity set t request = (answer : TapeAnswer) × (u : Tape) × DeviceStep capacity set t request answer u

-- one that comes to a device, which may fail
sure_can : (capacity : ℕ) (set : Trouble) (t : Tape) (request : TapeRequest) → (IsUntroubled capacity set t request → CanCall capacity set t request)
    → ComesToDevice capacity t request
    → CanCall capacity set t request
sure_can capacity set t request quiet comes = elim (none_or_set set) [
  | inl none ↦ quiet (inl none)
  | inr other ↦ (Fault fault.Device, tape t.before (left_after set request t.after), (other.0, comes, refl))
]

passes : (count : ℕ) (stood : List PlainEntry) (t : Tape) → (bytes : List ℕ) × (u : Tape) × Passes count stood t bytes u
passes count [] t = ([], t, (refl, refl))
passes count (Record written ∷ rest) t = (take count written, tape (t.before ++ Record written ∷ []) rest, (refl, refl))
passes count (Mark ∷ rest) t = ([], tape (t.before ++ Mark ∷ []) rest, (refl, refl))

-- spacing, whichever it is
space_can : (capacity : ℕ) (set : Trouble) (t : Tape) (request : TapeRequest) (count met place : ℕ) → (0 < count → ComesToDevice capacity t request)
    → (ComesToDevice capacity t request → 0 < count) → (SpaceStep count met place t Did (stands_at place t) → TapeStep capacity t request Did (stands_at place t))
    → (SpaceStep count met place t (Fault fault.EndOrMark) (stands_at place t) → TapeStep capacity t request (Fault fault.EndOrMark) (stands_at place t))
    → CanCall capacity set t request
space_can capacity set t request count met place to from done short = elim (or_above count 0) [
  | inl none ↦ untroubled (inr (λ comes. (let some = from comes in omega (arith, some, none))))
  | inr some ↦ sure_can capacity set t request untroubled (to some)
]
  where
    untroubled : IsUntroubled capacity set t request → CanCall capacity set t request
    untroubled quiet = elim (or_above count met) [
      | inl within ↦ (Did, stands_at place t, (quiet, done (within, refl)))
      | inr past ↦ (Fault fault.EndOrMark, stands_at place t, (quiet, short (past, refl)))
    ]

can_call : (capacity : ℕ) (set : Trouble) (t : Tape) (request : TapeRequest) → CanCall capacity set t request
can_call capacity set t (TapeWrite bytes) = elim (or_above (offset_of t.before + length bytes + 12) capacity) [
  | inr full ↦ (Fault fault.Full, t, (inr (λ fits. omega (arith, fits, full)), (full, refl)))
  | inl fits ↦ sure_can capacity set t (TapeWrite bytes) (λ quiet. (Did, tape (t.before ++ Record bytes ∷ []) [], (quiet, (fits, refl)))) fits
]
can_call capacity set t (TapeRead count) =
    let p = passes count t.after t in
    sure_can capacity set t (TapeRead count) (λ quiet. (Gave p.0, p.1, (quiet, p.2))) tt
can_call capacity set t (WriteMarks zero) = (Did, t, (inr (λ comes. (let some = comes.0 in omega (arith, some))), inl (refl, refl)))
can_call capacity set t (WriteMarks (suc n)) = elim (or_above (offset_of t.before + 4 * suc n) capacity) [
  | inr full ↦ (Fault fault.Full, t, (inr (λ comes. (let fits = comes.1 in omega (arith, fits, full))), (omega arith, full, refl)))
  | inl fits ↦
      sure_can capacity set t (WriteMarks (suc n)) (λ quiet. (Did, tape (t.before ++ replicate (suc n) Mark) [], (quiet, inr (omega arith, fits, refl))))
      (omega arith, fits)
]
can_call capacity set t (ForwardFiles count) = space_can capacity set t (ForwardFiles count) count _ _ (λ s. s) (λ s. s) (λ s. s) (λ s. s)
can_call capacity set t (BackFiles count) = space_can capacity set t (BackFiles count) count _ _ (λ s. s) (λ s. s) (λ s. s) (λ s. s)
can_call capacity set t (ForwardRecords count) = space_can capacity set t (ForwardRecords count) count _ _ (λ s. s) (λ s. s) (λ s. s) (λ s. s)
can_call capacity set t (BackRecords count) = space_can capacity set t (BackRecords count) count _ _ (λ s. s) (λ s. s) (λ s. s) (λ s. s)
can_call capacity set t Rewind = (Did, tape [] (entries_of t), (inr (λ comes. comes), refl))
can_call capacity set t Nothing = (Did, t, (inr (λ comes. comes), refl))
can_call capacity set t Unknown = (Fault fault.BadOperation, t, (inr (λ comes. comes), refl))

reel_can : (set : Trouble) (before : SessionView) (request : PlainRequest) (d : ℕ) (access : Access) (reel : PlainReel) → before.session ≡ Online d access reel
    → (reply : PlainReply) × (after : SessionView) × TroubledReelStep set before request reply after
reel_can set before request d access reel online =
    let call = can_call reel.capacity set reel.tape (tape_request request) in
    (_, _, (d, access, reel, call.0, call.1, online, call.2, refl, refl))

op_can : (offline : Bool) (set : Trouble) (before : SessionView) (op count d : ℕ) (access : Access) (reel : PlainReel) → before.session ≡ Online d access reel
    → (reply : PlainReply) × (after : SessionView) × TroubledOpStep offline set before op count reply after
op_can false set before op count d access reel online = reel_can set before (Op op count) d access reel online
op_can true set before op count d access reel online = elim (none_or_set set) [
  | inl none ↦ (_, _, (d, access, reel, Ok tt, online, none, refl, refl))
  | inr other ↦
      let after = session_view before.library (Online d access (plain_reel (tape [] (entries_of reel.tape)) reel.capacity)) in
      (_, after, (d, access, reel, Err drive.Device, online, other.0, refl, (other.1, (refl, λ taken. cc), refl)))
]

-- a request that no check refuses, and that is neither an open nor a close, has a reel
abbrev is_call : PlainRequest → Bool
is_call (Open device mode) = false
is_call Close = false
is_call request = true

has_reel : (session : PlainSession) (request : PlainRequest) → is_call request ≡ true → refusal (status_of session) request ≡ None
    → (d : ℕ) × (access : Access) × (reel : PlainReel) × (session ≡ Online d access reel)
has_reel (Online d access reel) request is none = (d, access, reel, refl)
has_reel session request is none = absurd (grind arith)

done_can : (set : Trouble) (before : SessionView) (request : PlainRequest) → refusal (status_of before.session) request ≡ None → is_open request ≡ false
    → (reply : PlainReply) × (after : SessionView) × TroubledDoneStep set before request reply after
done_can set before (Open device mode) none is = absurd cc
done_can set before Close none is = (Done 0, closed before, (refl, refl))
done_can set before (Op op count) none is =
    let r = has_reel before.session (Op op count) refl none in
    op_can (is_offline op) set before op count r.0 r.1 r.2 r.3
done_can set before request none is =
    let r = has_reel before.session request refl none in
    reel_can set before request r.0 r.1 r.2 r.3

refused_can : {R : Type 0} (says : R → PlainReply) (set : Trouble) (before : SessionView) (request : PlainRequest) (o : Option R)
    → (o ≡ None → (reply : PlainReply) × (after : SessionView) × TroubledDoneStep set before request reply after)
    → (reply : PlainReply) × (after : SessionView) × MatchOption o (TroubledDoneStep set before request reply after) (λ r. (reply ≡ says r) × (after ≡ before))
refused_can says set before request None done = done refl
refused_can says set before request (Some r) done = (says r, before, (refl, refl))

-- the first drive of a name, or none
later : (name : List ℕ) (r : Drive KeptReel) (rs : List (Drive KeptReel)) (n : ℕ) → r.name ≢ name
    → ((k : ℕ) → k < n → (slice_index_or rs k (drive_with [] [])).name ≢ name) → (k : ℕ) → k < suc n → (slice_index_or (r ∷ rs) k (drive_with [] [])).name ≢ name
later name r rs n here on k less = grind arith

abbrev IsNamedIn : List ℕ → List (Drive KeptReel) → Option ℕ → Type 0
IsNamedIn name drives o = IsDriveNamed name (library drives []) o

find_named : (name : List ℕ) (drives : List (Drive KeptReel)) → (o : Option ℕ) × IsNamedIn name drives o
find_named name [] = (None, λ k within. absurd (omega (arith, within)))
find_named name (r ∷ rs) = by_test (bytes_eq r.name name) refl (find_named name rs)
  where
    by_test : (b : Bool) → bytes_eq r.name name ≡ b → (o : Option ℕ) × IsNamedIn name rs o → (o : Option ℕ) × IsNamedIn name (r ∷ rs) o
    by_test true same on = (Some 0, (omega arith, (bytes_eq-Decides r.name name).0 same, λ k less. absurd (omega (arith, less))))
    by_test false other (None, on) = (None, later name r rs (length rs) (grind (arith, bytes_eq-Decides)) on)
    by_test false other (Some d, (within, its, on)) = (Some (suc d), (omega (arith, within), its, later name r rs d (grind (arith, bytes_eq-Decides)) on))

-- an open, once nothing is open
free_can : (set : Trouble) (holders : List ℕ) (before : SessionView) (device : List ℕ) (access : Access) (d : ℕ) (o : Option KeptReel) → IsDriveNamed device before.library (Some d)
    → holder_of holders (Some d) ≡ 0 → waiting_reel before.library d ≡ o → (reply : PlainReply) × (after : SessionView) × TroubledOpenStep set holders before device (Some access) reply after
free_can set holders before device access d None named free waits =
    (_, session_view before.library Idle, (Err drive.NoReel, Some d, (d, refl, named, (waits, refl)), free, refl, refl))
free_can set holders before device access d (Some first) named free waits = elim (none_or_set set) [
  | inl none ↦
      let reel = plain_reel (tape [] first.entries) first.capacity in (
        _,
        session_view (after_latch before.library d)
            (Online d access reel),
        (Ok (d, reel), Some d, (refl, named, (first, waits, refl, refl, refl)), (free, none), refl, refl),
      )
  | inr other ↦
      (_, session_view before.library Idle, (Err drive.Device, Some d, (d, refl, named, (λ e. (let clash = sym waits ∙ e in cc), refl)), (free, other.0), refl, refl))
]

held_can : (set : Trouble) (holders : List ℕ) (before : SessionView) (device : List ℕ) (access : Access) (d n : ℕ) → IsDriveNamed device before.library (Some d) → holder_of holders (Some d) ≡ n
    → (reply : PlainReply) × (after : SessionView) × TroubledOpenStep set holders before device (Some access) reply after
held_can set holders before device access d zero named free = free_can set holders before device access d (waiting_reel before.library d) named free refl
held_can set holders before device access d (suc m) named held =
    (_, session_view before.library Idle, (Err (drive.Busy (suc m)), Some d, (d, refl, named, refl), (omega (arith, held), sym held), refl, refl))

open_can : (set : Trouble) (holders : List ℕ) (before : SessionView) (device : List ℕ) (access : Option Access)
    → (reply : PlainReply) × (after : SessionView) × TroubledOpenStep set holders before device access reply after
open_can set holders before device None = (_, before, (refl, refl))
open_can set holders before device (Some access) = named_can (find_named device before.library.drives)
  where
    named_can : (o : Option ℕ) × IsNamedIn device before.library.drives o
        → (reply : PlainReply) × (after : SessionView) × TroubledOpenStep set holders before device (Some access) reply after
    named_can (None, named) = (_, session_view before.library Idle, (Err drive.NoSuchDrive, None, (named, refl), tt, refl, refl))
    named_can (Some d, named) = held_can set holders before device access d (holder_of holders (Some d)) named refl

-- whatever is asked
pub serve_can : (set : Trouble) (holders : List ℕ) (before : SessionView) (request : PlainRequest)
    → (reply : PlainReply) × (after : SessionView) × TroubledServeStep set holders before request reply after
serve_can set holders before (Open device mode) = open_can set (with_holder (drive_in before.session) 0 holders) (closed before) device (access_of mode)
serve_can set holders before request = refused_can refused set before request _ (λ none. done_can set before request none refl)
