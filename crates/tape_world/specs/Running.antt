-- Events as plain data, and the effect of a list of events on a world. Plain data are the values
-- that contracts use for what the code has in memory. Public contracts cite it.
use Rattle.std.specs.Prelude.{◌≡◌, ℕ, ◌<◌, List, [], ◌∷◌, length, map, take, slice_get, Some}
use Rattle.world_model.specs.World.{World}
use Rattle.world_model.specs.Events.{PlainEvent}
use Rattle.world_model.specs.Events.PlainEvent.{StartRun, Connect, Send, ToServer, Serve, ToClient, Cut, EndAtServer, EndAtClient, ServerRestart, ClientRestart, Respond, Arrange, Stranger, Says, Enter, Save}
use Rattle.world_model.specs.Rows.{Possible}
use Rattle.world_model.specs.Steps.{Runs}
use Rattle.world_model.specs.First.{PlainDriveSpec, AreGoodDrives, first_world}
use Rattle.world_model.specs.Faultless.{AreFaultless, VolumesInOrder}
use Rattle.tape_world.specs.declared.event.Event.{Event}
use Rattle.tape_world.specs.declared.event.Event.TheVariants as lent
use Rattle.tape_world.specs.declared.stop.EventStop.{EventStop}
use Rattle.tape_world.specs.declared.stop.EventStop.TheVariants as stops
use Rattle.tape_world.specs.declared.fault.WorldFault.{WorldFault}
use Rattle.tape_world.specs.declared.fault.WorldFault.TheVariants.{NotPossible, OutOfMemory}

-- an event with references, as plain data
abbrev pub plain_event : Event → PlainEvent
plain_event (lent.StartRun run payload) = StartRun run.now payload.now
plain_event lent.Connect = Connect
plain_event (lent.Send fails) = Send fails
plain_event (lent.ToServer k n) = ToServer k n
plain_event (lent.Serve k trouble) = Serve k trouble
plain_event (lent.ToClient k n) = ToClient k n
plain_event (lent.Cut k) = Cut k
plain_event (lent.EndAtServer k) = EndAtServer k
plain_event (lent.EndAtClient k) = EndAtClient k
plain_event lent.ServerRestart = ServerRestart
plain_event lent.ClientRestart = ClientRestart
plain_event (lent.Respond answer) = Respond answer
plain_event (lent.Arrange drive reels) = Arrange drive.now (map (λ name. name.now) reels.now)
plain_event lent.Stranger = Stranger
plain_event (lent.Says k bytes) = Says k bytes.now
plain_event lent.Enter = Enter
plain_event lent.Save = Save

-- the index of the event that did not happen, from 0
abbrev pub fault_place : WorldFault → ℕ
fault_place (NotPossible i) = i
fault_place (OutOfMemory i) = i

-- the fault for this stop, at the event with index `i`
abbrev pub fault_at : EventStop → ℕ → WorldFault
fault_at stops.NotPossible i = NotPossible i
fault_at stops.OutOfMemory i = OutOfMemory i

-- there is an event with index `i`, and exactly the events before it happened
pub record IsStopped (old : World) (events : List PlainEvent) (i : ℕ) (new : World) : Type 0 where
  pub inside : i < length events
  pub made : Runs old (take i events) new

-- if the fault is `NotPossible`, the event with its index is not possible
abbrev pub IsEventRefused : List PlainEvent → World → WorldFault → Type 0
IsEventRefused events w (NotPossible i) = (event : PlainEvent) → slice_get events i ≡ Some event → Possible w event → ⊥
IsEventRefused events w (OutOfMemory i) = Unit {0}

-- From the first world of one good drive, events without a fault leave the volumes in order.
abbrev pub LeavesInOrder : World → List PlainEvent → World → Type 0
LeavesInOrder old events new =
    (drive : PlainDriveSpec) → AreGoodDrives (drive ∷ []) → old ≡ first_world (drive ∷ []) → AreFaultless events → VolumesInOrder drive new
