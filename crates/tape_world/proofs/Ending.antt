-- What the end of the client's connection leaves of a world.
use Rattle.tape_world.proofs.Layers.{common_steps, arith, ◌≡◌, option_map, Option, Some, None, ℕ, AttemptFault, World, AttemptState, WorldClient, changed, without_peer, with_no_failure, caller, SeesEnd, RealCaller, seen_caller, SeesItsEnd, IsClients, IsOwned}
use Rattle.tape_world.proofs.Numbered.{left_after}

-- the client's connection is over
abbrev pub ended_world : World → ℕ → Option (ℕ × AttemptFault) → Option WorldClient → World
ended_world w k failure caller =
    record (with_no_failure w) { connections = changed without_peer w.connections k; own = None; caller = caller; failure = failure }

-- the client, which is in an attempt, saw the end
pub ended_step : (w u : World) (k : ℕ) (d : AttemptState) (o new : Option RealCaller) (failure : Option (ℕ × AttemptFault))
    → w.caller ≡ option_map seen_caller o
    → IsOwned w → IsClients w k → SeesItsEnd o failure new → u ≡ ended_world w k failure (option_map seen_caller new) → SeesEnd (Some d) w k u
ended_step w u k d o new failure was s clients saw is = grind (arith, common_steps, left_after, s.own k (s.only k clients))
