-- Events, one after the other.
use Rattle.tape_world.proofs.Layers.{common_steps, ◌≡◌, ℕ, ◌+◌, ◌<◌, List, [], ◌∷◌, ◌++◌, length, map, take, Some, sym, ap, subst, ◌∙◌, arith, slice_get, slice_index_or, Result, Ok, Err, take_more, slice_get-map, slice_get-get_or, World, PlainEvent, IsReached, Runs, one_more, EventStop, IsEvent, plain_event, fault_place, fault_at, IsStopped, IsEventRefused, get_or_from_slice_get, slice_get_within}
use Rattle.tape_world.specs.declared.event.Event.{Event}
use Rattle.tape_world.specs.declared.fault.WorldFault.{WorldFault}
use Rattle.tape_world.specs.declared.stop.EventStop.TheVariants as stops

-- a world that is reached stays so
pub reached_on : (w u : World) (event : PlainEvent) (result : Result Unit EventStop) → IsReached w → IsEvent w event result u → IsReached u
reached_on w u event (Ok x) (drives, events, good, run) happens = (drives, events ++ event ∷ [], good, one_more event run happens)
reached_on w u event (Err stops.NotPossible) reached same = subst IsReached (sym same.0) reached
reached_on w u event (Err stops.OutOfMemory) reached same = subst IsReached (sym same) reached

-- the event of a place
pub event_at : (events : List Event) (i : ℕ) (event d : Event) → i < length events → event ≡ slice_index_or events i d
    → slice_get (map plain_event events) i ≡ Some (plain_event event)
event_at events i event d inside is = grind (arith, common_steps, slice_get-map, slice_get-get_or)

-- one event more of a list
one_longer : (events : List PlainEvent) (i : ℕ) (event : PlainEvent) → slice_get events i ≡ Some event → take i events ++ event ∷ [] ≡ take (i + 1) events
one_longer events i event is =
    ap (λ e. take i events ++ e ∷ []) (sym (get_or_from_slice_get events i event event is))
    ∙ sym (take_more events i event (slice_get_within events i event is))

pub goes_on : (w u v : World) (events : List PlainEvent) (i : ℕ) (event : PlainEvent) (result : Result Unit EventStop) (x : Unit)
    → slice_get events i ≡ Some event → Runs w (take i events) u → result ≡ Ok x → IsEvent u event result v → Runs w (take (i + 1) events) v
goes_on w u v events i event result x is run ok made =
    subst (λ l. Runs w l v) (one_longer events i event is) (one_more event run (subst (λ r. IsEvent u event r v) ok made))

pub stopped : (w u v : World) (events : List PlainEvent) (i : ℕ) (event : PlainEvent) (result : Result Unit EventStop) (stop : EventStop) (fault : WorldFault)
    → slice_get events i ≡ Some event
    → Runs w (take i events) u → result ≡ Err stop → IsEvent u event result v → fault ≡ fault_at stop i → IsStopped w events (fault_place fault) v
stopped w u v events i event result stop fault at run err made is = grind (arith, common_steps, slice_get_within events i event at)

refused_by : (u v : World) (events : List PlainEvent) (i : ℕ) (event : PlainEvent) (stop : EventStop) → slice_get events i ≡ Some event
    → IsEvent u event (Err stop) v → IsEventRefused events v (fault_at stop i)
refused_by u v events i event stops.NotPossible at made = grind (arith, common_steps)
refused_by u v events i event stops.OutOfMemory at made = tt

pub refused : (u v : World) (events : List PlainEvent) (i : ℕ) (event : PlainEvent) (result : Result Unit EventStop) (stop : EventStop) (fault : WorldFault)
    → slice_get events i ≡ Some event → result ≡ Err stop → IsEvent u event result v → fault ≡ fault_at stop i → IsEventRefused events v fault
refused u v events i event result stop fault at err made is = grind (arith, common_steps, refused_by)
