-- One stream served with drives of any kind. `k` has the promises of the kinds of holds, stacks and
-- reels. `kind` gives the contents of the two streams, if they are specified. Public contracts cite
-- it.
use Rattle.std.specs.Prelude.{◌≡◌, None, OnOk, Result, Err}
use Rattle.drives.specs.Opening.{Kinds}
use Rattle.rmt_server.specs.declared.stream.Served.{Served}
use Rattle.rmt_server.specs.declared.stream.ServeFault.{ServeFault}
use Rattle.rmt_server.specs.State.{State}
use Rattle.rmt_server.specs.Carrying.{IsAlone}
use Rattle.rmt_server.specs.Stream.{Streams, StreamsKind, IsServedAs, NoneFailed}
use Rattle.rmtd_serve.specs.declared.session_fault.SessionFault.{SessionFault}
use Rattle.rmtd_serve.specs.declared.session_fault.SessionFault.TheVariants.{OutOfMemory, NoSeat}
use Rattle.rmtd_serve.specs.Status.{ending_of}

-- One stream is served with these stacks in a session of its own, which has nothing open before and
-- after. Each drive is free at the beginning. If an allocation failed before the first request was
-- read, or if no session number is left, nothing is touched.
pub data IsServedAt {H S Seat R In Out : Type 0} (k : Kinds H Seat S R) (kind : StreamsKind In Out) (before after : S)
    (old new : Streams In Out) : Result Served SessionFault → Type 0 where
  no_memory : after ≡ before → new.input ≡ old.input → new.output ≡ old.output → IsServedAt k kind before after old new (Err OutOfMemory)
  no_seat : after ≡ before → new.input ≡ old.input → new.output ≡ old.output → IsServedAt k kind before after old new (Err NoSeat)
  one_served : (start finish : State H S Seat R) (result : Result Served ServeFault)
      → start.drives.stacks ≡ before → start.opened ≡ None → IsAlone k start → finish.drives.stacks ≡ after → finish.opened ≡ None
      → IsServedAs k kind result old new start finish → OnOk result (NoneFailed old new)
      → IsServedAt k kind before after old new (ending_of result)
