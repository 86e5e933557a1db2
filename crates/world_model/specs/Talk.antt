-- The requests that the client sent on a connection, and those that the server carried out, over a
-- list of events. Here `k` is the number of a connection, `d` the attempt on a connection, `b` a
-- run that was begun, `s` the server's side of a connection, and `c` the client. Public contracts
-- cite it.
use Rattle.std.specs.Prelude.{◌≡◌, ◌⊎◌, ℕ, ◌==◌, Bool, true, false, List, [], ◌∷◌, ◌++◌, Option, Some, Result, Ok}
use Rattle.rmt_wire.specs.Request.{PlainRequest}
use Rattle.rmt_wire.specs.RequestParts.{ParsesAs}
use Rattle.rmt_wire.specs.RequestReader.{Unread}
use Rattle.rmt_wire.specs.declared.fault.WireFault.{WireFault}
use Rattle.rmt_server.specs.ServerState.{ServerConnection}
use Rattle.dump_client.specs.Script.{request_of}
use Rattle.dump_client.specs.Standing.{checkpoint_of}
use Rattle.dump_client.specs.declared.step.Step.{Step}
use Rattle.dump_client.specs.declared.stage.Stage.TheVariants.{ToSend}
use Rattle.world_model.specs.World.{World, AttemptState, Begun, WorldClient, numbered}
use Rattle.world_model.specs.Events.{PlainEvent}
use Rattle.world_model.specs.Events.PlainEvent.{Send, Serve}
use Rattle.world_model.specs.Changes.{side_of, HasDump}
use Rattle.world_model.specs.Steps.{Happens, Finds, is_failing}
use Rattle.world_model.specs.Serving.{IsNextSent}

-- the request, if the flag is set
abbrev pub one_if_here : Bool → PlainRequest → List PlainRequest
one_if_here true request = request ∷ []
one_if_here false request = []

-- the request, if it is sent on that connection and no read of the payload fails
abbrev pub sent_here : Bool → Bool → PlainRequest → List PlainRequest
sent_here true here request = []
sent_here false here request = one_if_here here request

-- the requests that the client sends on connection `k` in this event, which is one at most
abbrev pub Sent : ℕ → World → PlainEvent → List PlainRequest → Type 0
Sent k w (Send fails) requests =
    (c : WorldClient) × (step : Step) × (j : ℕ) × (b : Begun) × (w.caller ≡ Some c) × (c.at.stage ≡ ToSend step) × (w.own ≡ Some j)
    × (numbered w.begun c.number ≡ Some b)
    × (requests
    ≡ sent_here (is_failing fails step) (j == k)
    (request_of c.at.run b.payload (checkpoint_of c.at.counts).0 (checkpoint_of c.at.counts).1 step))
Sent k w event requests = requests ≡ []

-- the request that was found, which is carried out, or none if a fault was found
abbrev pub carried_here : Bool → Result (Option PlainRequest) WireFault → List PlainRequest
carried_here here (Ok (Some request)) = one_if_here here request
carried_here here found = []

-- the requests of connection `k` that the server carries out in this event, which is one at most
abbrev pub CarriedOut : ℕ → World → PlainEvent → World → List PlainRequest → Type 0
CarriedOut k w (Serve j trouble) u requests =
    (s : ServerConnection) × (found : Result (Option PlainRequest) WireFault) × (bytes : List ℕ) × (rest : List ℕ) × (side_of w.server j ≡ Some s)
    × Unread s.reached bytes × ParsesAs bytes found rest × Finds w j trouble s found rest u × (requests ≡ carried_here (j == k) found)
CarriedOut k w event u requests = requests ≡ []

-- Events one after the other, from the world `first` on. With them are all requests that the client
-- sent on connection `k`, in order, and all that the server carried out there, in order.
pub data Talks (k : ℕ) (first : World) : List PlainEvent → World → List PlainRequest → List PlainRequest → Type 0 where
  none : Talks k first [] first [] []
  one_more : {events : List PlainEvent} {before after : World} {sent carried : List PlainRequest} (event : PlainEvent) (more done : List PlainRequest)
      → Talks k first events before sent carried → Happens before event after → Sent k before event more
      → CarriedOut k before event after done → Talks k first (events ++ event ∷ []) after (sent ++ more) (carried ++ done)

-- If the connection is one of the client's, either all requests that were sent were carried out, or
-- all but the last. The last is then the next request of the attempt.
abbrev pub IsBeginning : World → ℕ → List PlainRequest → List PlainRequest → Type 0
IsBeginning w k sent carried =
    (d : AttemptState) → HasDump w k d
    → ((d.sent ≡ d.carried) × (carried ≡ sent))
    ⊎ ((request : PlainRequest) × IsNextSent w d request × (sent ≡ carried ++ request ∷ []))
