-- The effect of serving a pair of streams at a seat, on the streams and on the seat. `k` has the
-- promises of the kinds of holds, stacks and reels. `kind` gives the contents of the two streams,
-- if they are specified.
use Rattle.std.specs.Prelude.{◌≡◌, ◌≢◌, None, OnOk, Result, Err}
use Rattle.std.specs.declared.io.traits.Read.{Ghosts as ReadPromise}
use Rattle.std.specs.declared.io.traits.Write.{Ghosts as WritePromise}
use Rattle.rmt_wire.specs.Counted.{Counting}
use Rattle.drives.specs.declared.table.DriveTable.{DriveTable}
use Rattle.drives.specs.Opening.{Kinds}
use Rattle.rmt_server.specs.declared.stream.Served.{Served}
use Rattle.rmt_server.specs.declared.stream.ServeFault.{ServeFault}
use Rattle.rmt_server.specs.State.{State, seated_at, IsAt}
use Rattle.rmt_server.specs.Stream.{Streams, streams_kind, StreamsKind, Serving, streams_of, IsServedAs, NoneFailed}
use Rattle.rmtd_serve.specs.declared.session_fault.SessionFault.{SessionFault}
use Rattle.rmtd_serve.specs.declared.session_fault.SessionFault.TheVariants.{OutOfMemory}
use Rattle.rmtd_serve.specs.Status.{ending_of}

-- A session serves the streams, with this ending. If an allocation failed before the first request
-- was read, neither stream is touched and nothing is done.
pub data ServesStreams {H S Seat R In Out : Type 0} (k : Kinds H Seat S R) (kind : StreamsKind In Out) (start : State H S Seat R)
    (old new : Streams In Out) : Result Served SessionFault → State H S Seat R → Type 0 where
  untouched : new.input ≡ old.input → new.output ≡ old.output → ServesStreams k kind start old new (Err OutOfMemory) start
  served : (finish : State H S Seat R) (result : Result Served ServeFault)
      → IsServedAs k kind result old new start finish → OnOk result (NoneFailed old new)
      → ServesStreams k kind start old new (ending_of result) finish

-- The seat keeps its number, other seats keep what they hold, and the numbers of drives stay the
-- same.
pub record KeepsSeats {H S Seat R : Type 0} (k : Kinds H Seat S R) (old new : State H S Seat R) : Type 0 where
  pub number : (k.holds.shows new.seat).number ≡ (k.holds.shows old.seat).number
  pub others : (other : Seat) → (k.holds.shows other).number ≢ (k.holds.shows old.seat).number
      → k.holds.belongs old.drives.holds other → k.holds.belongs new.drives.holds other
  pub same_holds : k.holds.drives new.drives.holds ≡ k.holds.drives old.drives.holds
  pub same_stacks : k.stacks.drives new.drives.stacks ≡ k.stacks.drives old.drives.stacks

-- The session returns the drives and the seat, and has nothing open, so the seat holds no drive.
pub record IsServedAfresh {H S Seat R In Out : Type 0} (k : Kinds H Seat S R) (kind : StreamsKind In Out) (start : State H S Seat R)
    (old new : Streams In Out) (drives : DriveTable H S Seat R) (seat : Seat) (ending : Result Served SessionFault) : Type 0 where
  pub finish : State H S Seat R
  pub serves : ServesStreams k kind start old new ending finish
  pub drives_back : drives ≡ finish.drives
  pub seat_back : seat ≡ finish.seat
  pub nothing : finish.opened ≡ None
  pub at : IsAt k finish
  pub kept : KeepsSeats k start finish

-- The session returns the seat, which holds no drive, and the stacks, however the streams ended.
abbrev pub IsSeatReturned : {H S Seat R In Out : Type 0} → Kinds H Seat S R → StreamsKind In Out → State H S Seat R
    → Streams In Out → Streams In Out → Seat → S → Type 0
IsSeatReturned {H} {S} {Seat} {R} k kind start old new seat stacks =
    (ending : Result Served SessionFault) × (drives : DriveTable H S Seat R)
    × IsServedAfresh k kind start old new drives seat ending × (stacks ≡ drives.stacks)

-- a pair of streams, and a seat at these drives that has nothing open
abbrev pub idle : {In Out H S Seat R : Type 0} → Counting In → Counting Out → DriveTable H S Seat R → Seat → Serving (Counting In) Out H S Seat R
idle input output drives seat = record { requests = input; replies = output; state = seated_at drives seat None }

-- A session made for these streams alone serves them, with this ending, and returns the seat.
abbrev pub ServesAfresh : {In Out H S Seat R : Type 0} → Kinds H Seat S R → ReadPromise In → WritePromise Out
    → Serving (Counting In) Out H S Seat R → Serving (Counting In) Out H S Seat R → Result Served SessionFault → Type 0
ServesAfresh k input output old new ending =
    IsServedAfresh k (streams_kind input.remaining output.contents) old.state (streams_of old) (streams_of new) new.state.drives new.state.seat ending

-- A session made for these streams alone serves them. It then returns the seat and the stacks
-- `back`, however the streams ended.
abbrev pub GivesBack : {In Out H S Seat R : Type 0} → Kinds H Seat S R → ReadPromise In → WritePromise Out
    → Serving (Counting In) Out H S Seat R → Streams In Out → Seat × S → Type 0
GivesBack k input output old new back =
    IsSeatReturned k (streams_kind input.remaining output.contents) old.state (streams_of old) new back.0 back.1
