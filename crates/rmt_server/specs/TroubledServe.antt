-- One request of a session over drives and reels in memory, if the failure of its device call is
-- known in advance. It is a serve step with fewer possible results, along with the holders of the
-- drives. A drive's latched reel is the first of its stack: it is in the drive until it is laid
-- back or moved to the bin. Public contracts cite it.
use Rattle.std.specs.Prelude.{◌≡◌, ◌≢◌, ◌⊎◌, ℕ, ◌<◌, Bool, true, false, if◌then◌else◌, List, slice_set, slice_index, Option, Some, None, MatchOption, Result, Ok, Err}
use Rattle.rmt_wire.specs.Request.{PlainRequest}
use Rattle.rmt_wire.specs.Request.PlainRequest.{Open, Close, Op}
use Rattle.rmt_wire.specs.Reply.{PlainReply}
use Rattle.rmt_wire.specs.Reply.PlainReply.{Done}
use Rattle.tape.specs.Tape.{Tape, TapeAnswer}
use Rattle.tape.specs.Trouble.{DeviceStep}
use Rattle.tape.specs.declared.trouble.Trouble.{Trouble}
use Rattle.tape.specs.declared.trouble.Trouble.TheVariants.{None as NoTrouble}
use Rattle.drives.specs.declared.fault.DriveFault.{DriveFault}
use Rattle.drives.specs.declared.fault.DriveFault.TheVariants as drive
use Rattle.drives.specs.ListLibrary.{is_set, troubled_in}
use Rattle.drives.specs.Opening.{OpenStep}
use Rattle.rmt_server.specs.declared.access.Access.{Access}
use Rattle.rmt_server.specs.declared.refusal.Refusal.TheVariants.{InputOutput, Invalid}
use Rattle.rmt_server.specs.Access.{access_of}
use Rattle.rmt_server.specs.Refusals.{refused}
use Rattle.rmt_server.specs.Session.{PlainReel, plain_reel, PlainSession, SessionView, session_view, status_of, refusal, tape_request, reel_reply, closed, open_reply, session_after, is_offline, move_reply, MovesAs}
use Rattle.rmt_server.specs.Session.PlainSession.{Idle, Offline, Online}
use Rattle.rmt_server.specs.State.{seated_at, reel_of, HasView}
use Rattle.rmt_server.specs.Memory.{MemoryState, in_memory}
use Rattle.rmt_server.specs.Troubling.{with_trouble}
use Rattle.rmt_server.specs.Carrying.{is_of_stacks}

-- the drive that is open, if any
abbrev pub drive_in : PlainSession → Option ℕ
drive_in Idle = None
drive_in (Offline drive access) = Some drive
drive_in (Online drive access reel) = Some drive

-- the holders of the drives, with n as the holder of that drive, if there is one
abbrev pub with_holder : Option ℕ → ℕ → List ℕ → List ℕ
with_holder None n holders = holders
with_holder (Some d) n holders = slice_set holders d n

-- the holder of that drive, or 0 if there is no drive
abbrev pub holder_of : List ℕ → Option ℕ → ℕ
holder_of holders None = 0
holder_of holders (Some d) = slice_index holders d

-- the latched reel makes one call, whose device fails according to `trouble`; nothing else changes
abbrev pub TroubledReelStep : Trouble → SessionView → PlainRequest → PlainReply → SessionView → Type 0
TroubledReelStep trouble before request reply after =
    (drive : ℕ) × (access : Access) × (reel : PlainReel) × (answer : TapeAnswer) × (t : Tape)
    × (before.session ≡ Online drive access reel)
    × DeviceStep reel.capacity trouble reel.tape (tape_request request) answer t
    × (reply ≡ reel_reply request answer)
    × (after ≡ session_view before.library (Online drive access (plain_reel t reel.capacity)))

-- Why an open has this result, if the drive with that name has the holder n, or none at 0. A held
-- drive is busy. With a trouble set, no reel is latched. A latch in memory allocates nothing.
abbrev pub IsOpenCause : {R : Type 0} → Trouble → ℕ → Result (ℕ × R) DriveFault → Type 0
IsOpenCause trouble n (Ok opened) = (n ≡ 0) × (trouble ≡ NoTrouble)
IsOpenCause trouble n (Err drive.NoSuchDrive) = Unit {0}
IsOpenCause trouble n (Err (drive.Busy m)) = (0 < n) × (m ≡ n)
IsOpenCause trouble n (Err drive.NoReel) = n ≡ 0
IsOpenCause trouble n (Err drive.Device) = (n ≡ 0) × (trouble ≢ NoTrouble)
IsOpenCause trouble n (Err _) = ⊥

-- A session that has nothing open opens `device`. `trouble` is the fault that is set for the
-- device, and `holders` has the number of the session that holds each drive, or 0. Without an
-- access, the open's mode is not valid: the open is refused, and nothing changes.
abbrev pub TroubledOpenStep : Trouble → List ℕ → SessionView → List ℕ → Option Access → PlainReply → SessionView → Type 0
TroubledOpenStep trouble holders before device None reply after = (reply ≡ refused Invalid) × (after ≡ before)
TroubledOpenStep trouble holders before device (Some access) reply after =
    (result : Result (ℕ × PlainReel) DriveFault) × (asked : Option ℕ)
    × OpenStep (λ reel t. reel.tape ≡ t) (λ reel. reel.capacity) device asked result before.library after.library
    × IsOpenCause trouble (holder_of holders asked) result
    × (reply ≡ open_reply result)
    × (after.session ≡ session_after access result)

-- Why a move has this result. A reel is moved exactly if no trouble is set. A move in memory
-- allocates nothing, and finds no reel with that name in the bin.
abbrev pub IsMoveCause : Trouble → Result Unit DriveFault → Type 0
IsMoveCause trouble (Ok done) = trouble ≡ NoTrouble
IsMoveCause trouble (Err drive.Device) = trouble ≢ NoTrouble
IsMoveCause trouble (Err _) = ⊥

-- the latched reel is rewound, and moved to the bin if no trouble is set
abbrev pub TroubledMoveStep : Trouble → SessionView → ℕ → PlainReply → SessionView → Type 0
TroubledMoveStep trouble before count reply after =
    (drive : ℕ) × (access : Access) × (reel : PlainReel) × (result : Result Unit DriveFault)
    × (before.session ≡ Online drive access reel)
    × IsMoveCause trouble result
    × (reply ≡ move_reply count result)
    × MovesAs (is_set trouble) drive access reel result before.library after

-- An operation. If the flag is set it is MTOFFL, which moves the reel. If not, the reel carries it
-- out.
abbrev pub TroubledOpStep : Bool → Trouble → SessionView → ℕ → ℕ → PlainReply → SessionView → Type 0
TroubledOpStep true trouble before op count reply after = TroubledMoveStep trouble before count reply after
TroubledOpStep false trouble before op count reply after = TroubledReelStep trouble before (Op op count) reply after

-- one request that no check refuses, with its reply and the view after it
abbrev pub TroubledDoneStep : Trouble → SessionView → PlainRequest → PlainReply → SessionView → Type 0
TroubledDoneStep trouble before Close reply after = (reply ≡ Done 0) × (after ≡ closed before)
TroubledDoneStep trouble before (Op op count) reply after = TroubledOpStep (is_offline op) trouble before op count reply after
TroubledDoneStep trouble before request reply after = TroubledReelStep trouble before request reply after

-- One request and its reply, with these holders before it. Before an open, what is open is closed.
abbrev pub TroubledServeStep : Trouble → List ℕ → SessionView → PlainRequest → PlainReply → SessionView → Type 0
TroubledServeStep trouble holders before (Open device mode) reply after =
    TroubledOpenStep trouble (with_holder (drive_in before.session) 0 holders) (closed before) device (access_of mode) reply after
TroubledServeStep trouble holders before request reply after =
    MatchOption (refusal (status_of before.session) request)
    (TroubledDoneStep trouble before request reply after)
    (λ r. (reply ≡ refused r) × (after ≡ before))

-- One request of the session with the number k, its reply, and the view and holders after it. The
-- drive that was open before has no holder then, and the drive that is open now has the holder k.
pub record TroubledServe (trouble : Trouble) (holders : List ℕ) (k : ℕ) (before : SessionView) (request : PlainRequest) (reply : PlainReply)
    (after : SessionView) (holders' : List ℕ) : Type 0 where
  pub step : TroubledServeStep trouble holders before request reply after
  pub held : holders' ≡ with_holder (drive_in after.session) k (with_holder (drive_in before.session) 0 holders)

-- The open reel, if there is one, has the trouble `reel`. The stacks have the trouble `stacks`. No
-- reel on a stack or in the bin has one.
pub record IsTroubled (reel : Trouble) (stacks : Bool) (x : MemoryState) : Type 0 where
  pub online : MatchOption (reel_of x.opened) (Unit {0}) (λ r. r.trouble ≡ reel)
  pub next : x.drives.stacks.trouble ≡ stacks
  pub lying : troubled_in x.drives.stacks.library ≡ 0

-- the trouble is set for the stacks (true) or for the open reel (false), and nowhere else
abbrev pub IsSetAt : Bool → Trouble → MemoryState → Type 0
IsSetAt true trouble x = IsTroubled NoTrouble (is_set trouble) x
IsSetAt false trouble x = IsTroubled trouble false x

-- The trouble is set where the request meets it, and nowhere else: for the stacks before an open
-- and MTOFFL, otherwise for the open reel. A close meets none.
abbrev pub IsSetFor : Trouble → PlainRequest → MemoryState → Type 0
IsSetFor trouble Close x = IsTroubled NoTrouble false x
IsSetFor trouble request x = IsSetAt (is_of_stacks request) trouble x

-- the trouble that is set for the open reel before that request
abbrev pub set_online : Trouble → PlainRequest → Trouble
set_online trouble Close = NoTrouble
set_online trouble request = if is_of_stacks request then NoTrouble else trouble

-- What is `left` of the trouble `set` after a request with this reply: all of it, or none if a
-- device call met it. In the second case the reply is error 5.
abbrev pub IsSpent : Trouble → PlainReply → Trouble → Type 0
IsSpent set reply left = (left ≡ set) ⊎ ((set ≢ NoTrouble) × (left ≡ NoTrouble) × (reply ≡ refused InputOutput))

-- Whether the trouble of the stacks is still set after a request: as before, or no longer if a
-- latch or a move met it. In the second case the reply is error 5.
abbrev pub IsNextSpent : Bool → PlainReply → Bool → Type 0
IsNextSpent set reply left = (left ≡ set) ⊎ ((set ≡ true) × (left ≡ false) × (reply ≡ refused InputOutput))

-- The request is served under this trouble. No reel on the stacks or in the bin has a trouble
-- afterwards. A trouble that was set is left unless a device call met it.
pub record IsServedUnder (trouble : Trouble) (old : MemoryState) (before : SessionView) (request : PlainRequest) (reply : PlainReply)
    (new : MemoryState) : Type 0 where
  pub after : SessionView
  pub tells : HasView in_memory new after
  pub served : TroubledServe trouble old.drives.holds.numbers old.seat.number before request reply after new.drives.holds.numbers
  pub lying : troubled_in new.drives.stacks.library ≡ 0
  pub online : MatchOption (reel_of new.opened) (Unit {0}) (λ r. IsSpent (set_online trouble request) reply r.trouble)
  pub next : IsNextSpent old.drives.stacks.trouble reply new.drives.stacks.trouble

-- the state with this trouble set for the open reel, if there is one, and this one for the stacks
abbrev pub with_troubles : Trouble → Bool → MemoryState → MemoryState
with_troubles reel stacks x =
    seated_at (record x.drives { stacks = record x.drives.stacks { trouble = stacks } }) x.seat (with_trouble reel x.opened)

-- the state with the trouble set for the stacks (true) or for the open reel (false)
abbrev pub set_at : Bool → Trouble → MemoryState → MemoryState
set_at true trouble x = with_troubles NoTrouble (is_set trouble) x
set_at false trouble x = with_troubles trouble false x

-- the state with the trouble set where the request meets it
abbrev pub set_for : Trouble → PlainRequest → MemoryState → MemoryState
set_for trouble Close x = with_troubles NoTrouble false x
set_for trouble request x = set_at (is_of_stacks request) trouble x

-- The open device was closed between `old`, with the view `before`, and `new`. Its reel is back on
-- its stack and its drive has no holder. No reel on the stacks or in the bin has a trouble.
pub record IsEnded (old : MemoryState) (before : SessionView) (new : MemoryState) : Type 0 where
  pub tells : HasView in_memory new (closed before)
  pub held : new.drives.holds.numbers ≡ with_holder (drive_in before.session) 0 old.drives.holds.numbers
  pub lying : troubled_in new.drives.stacks.library ≡ 0
