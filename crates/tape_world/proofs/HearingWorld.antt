-- What a client that heard something leaves of a world.
use Rattle.tape_world.proofs.Layers.{common_steps, arith, ◌≡◌, Bool, List, ◌++◌, map, option_map, Option, Some, ℕ, VolumeCount, AttemptFault, World, AttemptState, WorldClient, Count, changed, reel_opened_by, counts_of, Hears, caller, RealCaller, HistoryHeld, IsSameHistory, seen_caller, name_at, IsClients, IsOwned, heard_on, own_after, IsAttempting, HasHeard, history_count, option_to_list}
use Rattle.tape_world.specs.declared.world_state.hearing.PieceHeard.{PieceHeard}
use Rattle.tape_world.proofs.Numbered.{left_after}

-- the client whose connection it is is in an attempt
pub attempts : (w : World) (o : Option RealCaller) (k : ℕ) → w.caller ≡ option_map seen_caller o → IsOwned w → IsClients w k → IsAttempting o
attempts w o k was s clients = grind (arith, s.own k (s.only k clients))

-- the world after the client heard so many bytes
abbrev pub heard_world : World → ℕ → ℕ → Bool → Option WorldClient → List Count → Option (ℕ × AttemptFault) → World
heard_world w k n over caller counts failure =
    record w { connections = changed (heard_on over n) w.connections k; own = own_after over w.own; caller = caller; counts = counts; failure = failure }

pub heard_step : (w u : World) (k n : ℕ) (dump : Option AttemptState) (d : AttemptState) (piece : List ℕ) (o new : Option RealCaller) (h : PieceHeard)
    → dump ≡ Some d
    → w.caller ≡ option_map seen_caller o → HasHeard o piece h new
    → u ≡ heard_world w k n h.is_over (option_map seen_caller new) (w.counts ++ map (counts_of w h.run k) (option_to_list h.count)) h.failure
    → Hears dump w k n piece u
heard_step w u k n dump d piece o new h some was e is = grind (arith, common_steps, left_after)

-- the history, after what the client counted was kept there
pub counts_kept : (b after new : HistoryHeld) (run reel k : ℕ) (o : Option VolumeCount) → IsSameHistory b after
    → name_at after.names reel ≡ reel_opened_by k after.opens
    → new ≡ record after { counts = after.counts ++ map (history_count run (name_at after.names reel) k) (option_to_list o); rooms = new.rooms }
    → new ≡ record b { counts = b.counts ++ map (history_count run (reel_opened_by k b.opens) k) (option_to_list o); rooms = new.rooms }
counts_kept b after new run reel k o same named is = cc
