-- Laws of sessions, each with its own name. A drive's latched reel is the first of its stack: it is
-- in the drive until it is laid back or moved to the bin. Public contracts cite it.
use Rattle.std.specs.Prelude.{◌≡◌, ◌≢◌, ℕ, ◌≤◌, Bool, true, List, Option, Some}
use Rattle.tape.specs.Trouble.{TroubledTape}
use Rattle.tape.specs.declared.trouble.Trouble.{Trouble}
use Rattle.tape.specs.declared.trouble.Trouble.TheVariants.{None as NoTrouble}
use Rattle.drives.specs.declared.table.DriveTable.{DriveTable}
use Rattle.drives.specs.declared.view.View.{View}
use Rattle.drives.specs.ListLibrary.{ListLibrary, is_set}
use Rattle.drives.specs.Local.{Holders, holders, IsHeldBy}
use Rattle.drives.specs.Stacking.{HasLatched}
use Rattle.drives.specs.Opening.{Kinds}
use Rattle.rmt_wire.specs.Request.{PlainRequest}
use Rattle.rmt_wire.specs.Reply.{PlainReply}
use Rattle.rmt_server.specs.declared.session.session_state.SessionState.{SessionState}
use Rattle.rmt_server.specs.declared.refusal.Refusal.TheVariants.{NoMemory}
use Rattle.rmt_server.specs.Refusals.{refused}
use Rattle.rmt_server.specs.Session.{SessionView, ServeStep}
use Rattle.rmt_server.specs.State.{state, IsAt, HasView, KeepsDrives, drive_of, online_drive}
use Rattle.rmt_server.specs.Opening.{IsClosed}
use Rattle.rmt_server.specs.Carrying.{IsCarriedOut, is_of_stacks}
use Rattle.rmt_server.specs.Memory.{MemoryState, in_memory}
use Rattle.rmt_server.specs.TroubledServe.{TroubledServe, IsTroubled, IsSetFor, IsServedUnder, IsEnded}

-- no drive is open in two sessions of two seats
abbrev pub NoDriveIsOpenTwice : {S R : Type 0} → Kinds Holders View S R → Type 0
NoDriveIsOpenTwice {S} {R} k = (drives : DriveTable Holders S View R) (one other : SessionState View R) (d : ℕ) → IsAt k (state drives one) → IsAt k (state drives other) →
    one.seat.number ≢ other.seat.number → drive_of one.opened ≡ Some d → drive_of other.opened ≡ Some d → ⊥

-- after a session has acted, the drives still match each session of another seat
abbrev pub OthersStayAt : {S R : Type 0} → Kinds Holders View S R → Type 0
OthersStayAt {S} {R} k = (old new : DriveTable Holders S View R) (one after other : SessionState View R) → IsAt k (state old one) → IsAt k (state old other) →
    other.seat.number ≢ one.seat.number → IsAt k (state new after) → KeepsDrives k (state old one) (state new after) → IsAt k (state new other)

-- a drive that is open is held by the session's seat
abbrev pub OpenIsHeld : {S R : Type 0} → Kinds Holders View S R → Type 0
OpenIsHeld {S} {R} k = (drives : DriveTable Holders S View R) (session_state : SessionState View R) (d : ℕ) →
    IsAt k (state drives session_state) → drive_of session_state.opened ≡ Some d → IsHeldBy drives.holds d session_state.seat.number

-- a drive that no seat holds is open in no session
abbrev pub FreeIsClosed : {S R : Type 0} → Kinds Holders View S R → Type 0
FreeIsClosed {S} {R} k = (drives : DriveTable Holders S View R) (session_state : SessionState View R) (d : ℕ) →
    IsAt k (state drives session_state) → IsHeldBy drives.holds d 0 → drive_of session_state.opened ≢ Some d

-- The drives still match a session if its seat belongs to them, the numbers of drives are
-- unchanged, and its open reel stays latched.
abbrev pub StaysAt : {H S Seat R : Type 0} → Kinds H Seat S R → Type 0
StaysAt {H} {S} {Seat} {R} k = (old new : DriveTable H S Seat R) (session_state : SessionState Seat R) → IsAt k (state old session_state) →
    k.holds.belongs new.holds session_state.seat → k.holds.drives new.holds ≡ k.holds.drives old.holds → k.stacks.drives new.stacks ≡ k.stacks.drives old.stacks →
    ((d : ℕ) → online_drive session_state.opened ≡ Some d → HasLatched k.stacks.holds old.stacks d → HasLatched k.stacks.holds new.stacks d) → IsAt k (state new session_state)

-- The drives still match a session if its seat belongs to them, the numbers of drives are
-- unchanged, and reels stay latched at all drives except `d`, which the session does not have open.
abbrev pub StaysAtElsewhere : {H S Seat R : Type 0} → Kinds H Seat S R → Type 0
StaysAtElsewhere {H} {S} {Seat} {R} k = (old new : DriveTable H S Seat R) (session_state : SessionState Seat R) (d : ℕ) → IsAt k (state old session_state) → drive_of session_state.opened ≢ Some d →
    k.holds.belongs new.holds session_state.seat → k.holds.drives new.holds ≡ k.holds.drives old.holds → k.stacks.drives new.stacks ≡ k.stacks.drives old.stacks →
    ((e : ℕ) → e ≢ d → HasLatched k.stacks.holds old.stacks e → HasLatched k.stacks.holds new.stacks e) → IsAt k (state new session_state)

-- the drives of one thread still match a session after more seat numbers were assigned
abbrev pub StaysAtWithMoreSeats : {S R : Type 0} → Kinds Holders View S R → Type 0
StaysAtWithMoreSeats {S} {R} k = (old : DriveTable Holders S View R) (session_state : SessionState View R) (last : ℕ) →
    IsAt k (state old session_state) → old.holds.last ≤ last → IsAt k (state (record old { holds = holders old.holds.numbers last }) session_state)

-- drives in memory still match a session after the trouble of the stacks was set or cleared
abbrev pub StaysAtUnderTrouble : {H Seat : Type 0} → Kinds H Seat ListLibrary TroubledTape → Type 0
StaysAtUnderTrouble {H} {Seat} k = (old : DriveTable H ListLibrary Seat TroubledTape) (session_state : SessionState Seat TroubledTape) (on : Bool) →
    IsAt k (state old session_state) → IsAt k (state (record old { stacks = record old.stacks { trouble = on } }) session_state)

-- One request of a session at drives in memory is served under the trouble that is set for its
-- device call. No reel on the stacks or in the bin has a trouble afterwards.
abbrev pub TroublesAreServed : Type 0
TroublesAreServed = (trouble : Trouble) (old new : MemoryState) (before : SessionView) (request : PlainRequest) (reply : PlainReply) →
    IsAt in_memory old → HasView in_memory old before → IsSetFor trouble request old → IsCarriedOut in_memory old request reply new →
    IsServedUnder trouble old before request reply new

-- one request under a trouble is a serve step
abbrev pub TroubledIsServed : Type 0
TroubledIsServed = (trouble : Trouble) (holders holders' : List ℕ) (k : ℕ) (before after : SessionView) (request : PlainRequest) (reply : PlainReply) →
    TroubledServe trouble holders k before request reply after holders' →
    (asked : Option ℕ) × (found : ℕ) × ServeStep (is_set trouble) true asked found before request reply after

-- requests that use the stacks in memory, an open and MTOFFL, are never refused for lack of memory
abbrev pub NoMemoryIsWanted : Type 0
NoMemoryIsWanted = (trouble : Trouble) (holders holders' : List ℕ) (k : ℕ) (before after : SessionView) (request : PlainRequest) (reply : PlainReply) →
    TroubledServe trouble holders k before request reply after holders' → is_of_stacks request ≡ true → reply ≢ refused NoMemory

-- After the end of a session whose open reel has no trouble, that reel is back on its stack, and
-- its drive has no holder. No reel on the stacks or in the bin has a trouble.
abbrev pub EndsUntroubled : Type 0
EndsUntroubled = (stacks : Bool) (old new : MemoryState) (before : SessionView) →
    IsAt in_memory old → HasView in_memory old before → IsTroubled NoTrouble stacks old → IsClosed in_memory old new → IsEnded old before new
