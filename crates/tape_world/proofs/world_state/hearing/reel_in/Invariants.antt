use Rattle.tape_world.proofs.Layers.{reel_opened_by, seen_opening, ◌≡◌, ℕ, List, map, drop}
use Rattle.tape_world.proofs.world_state.hearing.reel_in.Given as goal

-- no opening before this one is of the connection
abbrev pub invariant-loop-opening : goal.invariant-loop-opening
invariant-loop-opening l = (names : List (List ℕ))
    → reel_opened_by l.connection (map (seen_opening names) (drop l.opening-index l.opens)) ≡ reel_opened_by l.connection (map (seen_opening names) l.opens)
