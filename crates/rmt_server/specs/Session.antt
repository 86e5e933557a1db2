-- What a session has open, and what each request does (rmt(8); effects and the order of checks are
-- this project's). A drive's latched reel is the first of its stack: it is in the drive until it is
-- laid back or moved to the bin. Public contracts cite it.
use Rattle.std.specs.Prelude.{◌≡◌, ℕ, ◌<◌, min, ◌==◌, nat_lt, Bool, true, false, ◌||◌, IsTrue, if◌then◌else◌, List, [], ◌∷◌, ◌++◌, length, Option, Some, None, MatchOption, Result, Ok, Err}
use Rattle.rmt_wire.specs.Request.{PlainRequest}
use Rattle.rmt_wire.specs.declared.limits.TheConstants.{RECORD_LIMIT}
use Rattle.rmt_wire.specs.declared.mtio.TheConstants.{MTWEOF, MTOFFL, MTNOP}
use Rattle.rmt_wire.specs.Request.PlainRequest.{Open, Close, Write, WriteDropped, Read, Op}
use Rattle.rmt_wire.specs.Reply.{PlainReply}
use Rattle.rmt_wire.specs.Reply.PlainReply.{Done, Data}
use Rattle.tape.specs.Tape.{Tape, tape, TapeRequest, TapeAnswer, TapeStep, entries_of, op_request}
use Rattle.rmt_wire.specs.declared.limits.TheConstants.{RECORD_LIMIT}
use Rattle.rmt_wire.specs.declared.mtio.TheConstants.{MTWEOF, MTOFFL, MTNOP}
use Rattle.tape.specs.Tape.TapeRequest.{Write as WriteRecord, Read as ReadRecord, Unknown}
use Rattle.tape.specs.Tape.TapeAnswer.{Done as Did, Gave, Fault}
use Rattle.tape.specs.declared.fault.TapeFault.{TapeFault}
use Rattle.tape.specs.declared.fault.TapeFault.TheVariants as fault
use Rattle.rmt_server.specs.declared.access.Access.{Access}
use Rattle.rmt_server.specs.declared.refusal.Refusal.{Refusal}
use Rattle.rmt_server.specs.declared.refusal.Refusal.TheVariants.{BadDescriptor, Invalid, NotConfigured, Permission}
use Rattle.drives.specs.declared.fault.DriveFault.{DriveFault}
use Rattle.drives.specs.declared.fault.DriveFault.TheVariants as drive
use Rattle.rmt_server.specs.Access.{access_of, reads, writes}
use Rattle.rmt_server.specs.Refusals.{refused, tape_refusal, drive_refusal}
use Rattle.drives.specs.TapeLibrary.{TapeLibrary, after_unlatch, after_offline}
use Rattle.drives.specs.Stacking.{StaysOnline}
use Rattle.drives.specs.Opening.{OpenStep, found_in_open}

-- a latched reel: its tape, and its capacity in bytes
pub record PlainReel : Type 0 where
  pub tape : Tape
  pub capacity : ℕ

-- builds a PlainReel from its parts
abbrev pub plain_reel : Tape → ℕ → PlainReel
plain_reel t capacity = record { tape = t; capacity = capacity }

-- what a session has open
pub data PlainSession : Type 0 where
  -- nothing is open
  Idle : PlainSession
  -- a drive is open, and its reel is in the bin
  Offline : (drive : ℕ) → (access : Access) → PlainSession
  -- a drive is open, and its reel is latched
  Online : (drive : ℕ) → (access : Access) → (reel : PlainReel) → PlainSession

-- drives, reels and bin, and the session that works on them
pub record SessionView : Type 0 where
  pub library : TapeLibrary
  pub session : PlainSession

-- builds a SessionView from its parts
abbrev pub session_view : TapeLibrary → PlainSession → SessionView
session_view library session = record { library = library; session = session }

-- the part of a session that the checks use
pub data Status : Type 0 where
  NothingOpen : Status
  ReelAway : Status
  Ready : (access : Access) → Status

-- the status of a session, for the checks
abbrev pub status_of : PlainSession → Status
status_of Idle = NothingOpen
status_of (Offline drive access) = ReelAway
status_of (Online drive access reel) = Ready access

-- why a write of `count` bytes is refused: a record has 1 to 262,144 bytes
abbrev pub write_refusal : Access → ℕ → Option Refusal
write_refusal access count =
    if writes access then (if (count == 0) || nat_lt RECORD_LIMIT count then Some Invalid else None) else Some BadDescriptor

-- why a read of `count` bytes is refused: the count is at least 1
abbrev pub read_refusal : Access → ℕ → Option Refusal
read_refusal access count = if reads access then (if count == 0 then Some Invalid else None) else Some BadDescriptor

-- why an operation is refused: mtio's are 0 to 7, and of these only MTWEOF 0 writes
abbrev pub op_refusal : Access → ℕ → Option Refusal
op_refusal access op =
    if op == MTWEOF then (if writes access then None else Some Permission) else if nat_lt MTNOP op then Some Invalid else None

-- The first check that refuses the request, if one does. The checks of an open come after what was
-- open is closed.
abbrev pub refusal : Status → PlainRequest → Option Refusal
refusal status (Open device mode) = None
refusal NothingOpen request = Some BadDescriptor
refusal ReelAway Close = None
refusal ReelAway request = Some NotConfigured
refusal (Ready access) Close = None
refusal (Ready access) (Write bytes) = write_refusal access (length bytes)
refusal (Ready access) (WriteDropped count) = if writes access then Some Invalid else Some BadDescriptor
refusal (Ready access) (Read count) = read_refusal access count
refusal (Ready access) (Op op count) = op_refusal access op

-- the call of the reel for a request; a read returns at most 262,144 bytes
abbrev pub tape_request : PlainRequest → TapeRequest
tape_request (Write bytes) = WriteRecord bytes
tape_request (Read count) = ReadRecord (min count RECORD_LIMIT)
tape_request (Op op count) = op_request op count
tape_request request = Unknown

-- the reply to a request that succeeded
abbrev pub done_reply : PlainRequest → PlainReply
done_reply (Write bytes) = Done (length bytes)
done_reply (Op op count) = Done count
done_reply request = Done 0

-- The reply to a request for which the reel failed. A record without room is no error: 0 bytes of
-- it were written.
abbrev pub fault_reply : PlainRequest → TapeFault → PlainReply
fault_reply (Write bytes) fault.Full = Done 0
fault_reply request other = refused (tape_refusal other)

-- the reply for a result of the reel
abbrev pub reel_reply : PlainRequest → TapeAnswer → PlainReply
reel_reply request Did = done_reply request
reel_reply request (Gave bytes) = Data bytes
reel_reply request (Fault why) = fault_reply request why

-- if the answer is that the device failed, there was trouble (`troubled`); if it is that an
-- allocation failed, the reel can allocate (`grows`)
abbrev pub IsExcused : Bool → Bool → TapeAnswer → Type 0
IsExcused troubled grows (Fault fault.Device) = IsTrue troubled
IsExcused troubled grows (Fault fault.OutOfMemory) = IsTrue grows
IsExcused troubled grows answer = Unit {0}

-- the latched reel makes one step, and nothing else changes
abbrev pub ReelStep : Bool → Bool → SessionView → PlainRequest → PlainReply → SessionView → Type 0
ReelStep troubled grows before request reply after =
    (drive : ℕ) × (access : Access) × (reel : PlainReel) × (answer : TapeAnswer) × (t : Tape)
    × (before.session ≡ Online drive access reel)
    × TapeStep reel.capacity reel.tape (tape_request request) answer t
    × IsExcused troubled grows answer
    × (reply ≡ reel_reply request answer)
    × (after ≡ session_view before.library (Online drive access (plain_reel t reel.capacity)))

-- the library after the session closed what it had open: a latched reel is back on its stack
abbrev pub closed_library : TapeLibrary → PlainSession → TapeLibrary
closed_library library Idle = library
closed_library library (Offline drive access) = library
closed_library library (Online drive access reel) = after_unlatch library drive (entries_of reel.tape) reel.capacity

-- the view after the session closed what it had open
abbrev pub closed : SessionView → SessionView
closed v = session_view (closed_library v.library v.session) Idle

-- the reply to an open
abbrev pub open_reply : {R : Type 0} → Result (ℕ × R) DriveFault → PlainReply
open_reply (Ok opened) = Done 0
open_reply (Err why) = refused (drive_refusal why)

-- the session after an open: the drive is open with that access and its reel, or nothing is
abbrev pub session_after : Access → Result (ℕ × PlainReel) DriveFault → PlainSession
session_after access (Ok opened) = Online opened.0 access opened.1
session_after access (Err why) = Idle

-- the drive is busy only if the take found another seat, and the device fails only if there was
-- trouble
abbrev pub IsOpenExcused : {R : Type 0} → Bool → Result (ℕ × R) DriveFault → Type 0
IsOpenExcused troubled (Err (drive.Busy n)) = 0 < n
IsOpenExcused troubled (Err drive.Device) = IsTrue troubled
IsOpenExcused troubled (Err drive.NameTaken) = ⊥
IsOpenExcused troubled result = Unit {0}

-- What an open does after nothing is open any more. `asked` is the drive that was taken or found
-- held, if any. `found` is the number of the seat that the take found there.
abbrev pub OpensAs : Bool → Option ℕ → ℕ → SessionView → List ℕ → Option Access → PlainReply → SessionView → Type 0
OpensAs troubled asked found before device None reply after = (reply ≡ refused Invalid) × (after ≡ before)
OpensAs troubled asked found before device (Some access) reply after =
    (result : Result (ℕ × PlainReel) DriveFault)
    × OpenStep (λ reel t. reel.tape ≡ t) (λ reel. reel.capacity) device asked result before.library after.library
    × (found ≡ found_in_open result)
    × IsOpenExcused troubled result
    × (reply ≡ open_reply result)
    × (after.session ≡ session_after access result)

-- MTOFFL 6 of mtio moves the reel to the bin; the reel carries out all other operations
abbrev pub is_offline : ℕ → Bool
is_offline op = op == MTOFFL

-- a reel was not moved with this error: the device fails only if there was trouble
abbrev pub IsMoveExcused : Bool → DriveFault → Type 0
IsMoveExcused troubled drive.Device = IsTrue troubled
IsMoveExcused troubled drive.OutOfMemory = Unit {0}
IsMoveExcused troubled drive.NameTaken = Unit {0}
IsMoveExcused troubled fault = ⊥

-- the reply to a move
abbrev pub move_reply : ℕ → Result Unit DriveFault → PlainReply
move_reply count (Ok done) = Done count
move_reply count (Err why) = refused (drive_refusal why)

-- The reel is last in the bin, and its drive stays open. If the move failed, the reel is open at
-- its beginning.
abbrev pub MovesAs : Bool → ℕ → Access → PlainReel → Result Unit DriveFault → TapeLibrary → SessionView → Type 0
MovesAs troubled drive access reel (Ok done) before after =
    after ≡ session_view (after_offline before drive (entries_of reel.tape) reel.capacity) (Offline drive access)
MovesAs troubled drive access reel (Err why) before after =
    IsMoveExcused troubled why × StaysOnline drive why before after.library
    × (after.session ≡ Online drive access (plain_reel (tape [] (entries_of reel.tape)) reel.capacity))

-- the latched reel is rewound and moved to the bin, if the move does not fail
abbrev pub MoveStep : Bool → SessionView → ℕ → PlainReply → SessionView → Type 0
MoveStep troubled before count reply after =
    (drive : ℕ) × (access : Access) × (reel : PlainReel) × (result : Result Unit DriveFault)
    × (before.session ≡ Online drive access reel)
    × (reply ≡ move_reply count result)
    × MovesAs troubled drive access reel result before.library after

-- An operation. If the first flag is set it is MTOFFL, which moves the reel. If not, the reel
-- carries it out.
abbrev pub OpStep : Bool → Bool → Bool → SessionView → ℕ → ℕ → PlainReply → SessionView → Type 0
OpStep true troubled grows before op count reply after = MoveStep troubled before count reply after
OpStep false troubled grows before op count reply after = ReelStep troubled grows before (Op op count) reply after

-- one request that no check refuses, with its reply and the view after it
abbrev pub DoneStep : Bool → Bool → SessionView → PlainRequest → PlainReply → SessionView → Type 0
DoneStep troubled grows before Close reply after = (reply ≡ Done 0) × (after ≡ closed before)
DoneStep troubled grows before (Op op count) reply after = OpStep (is_offline op) troubled grows before op count reply after
DoneStep troubled grows before request reply after = ReelStep troubled grows before request reply after

-- One request, its reply, and the view after it. `troubled` is true if a device failed, and `grows`
-- if the reels can allocate. `asked` and `found` describe the take of an open.
abbrev pub ServeStep : Bool → Bool → Option ℕ → ℕ → SessionView → PlainRequest → PlainReply → SessionView → Type 0
ServeStep troubled grows asked found before (Open device mode) reply after =
    OpensAs troubled asked found (closed before) device (access_of mode) reply after
ServeStep troubled grows asked found before request reply after =
    MatchOption (refusal (status_of before.session) request)
    (DoneStep troubled grows before request reply after)
    (λ r. (reply ≡ refused r) × (after ≡ before))

-- Requests and their replies, one step after another. There is trouble only if `fails` is true: a
-- device can fail. A take finds another seat only if `shared` is true: another seat may hold a
-- drive.
pub data ServeRun (fails shared grows : Bool) (start : SessionView) : List (PlainRequest × PlainReply) → SessionView → Type 0 where
  none : ServeRun fails shared grows start [] start
  one_more : {done : List (PlainRequest × PlainReply)} {before after : SessionView}
      (request : PlainRequest) (reply : PlainReply) (troubled : Bool) (asked : Option ℕ) (found : ℕ)
      → ServeRun fails shared grows start done before → (IsTrue troubled → IsTrue fails) → (0 < found → IsTrue shared)
      → ServeStep troubled grows asked found before request reply after
      → ServeRun fails shared grows start (done ++ (request, reply) ∷ []) after
