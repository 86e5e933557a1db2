-- Runs of events, put together.
use Rattle.world_model.proofs.Basics.{List, [], ◌∷◌, ◌++◌, append_assoc, sym, subst, append-nil}
use Rattle.world_model.proofs.Terms.{World, PlainEvent, Runs, none, one_more}

pub run_on : {first before after : World} {events more : List PlainEvent} → Runs first events before → Runs before more after → Runs first (events ++ more) after
run_on {first = first} {before = before} {events = events} run none = subst (λ l. Runs first l before) (sym (append-nil events)) run
run_on {events = events} run (one_more {events = more} event next happens) =
    rw (← append_assoc events more (event ∷ [])) (one_more event (run_on run next) happens)
