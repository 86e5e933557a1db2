-- What an operator's order leaves of a host.
use Rattle.std.proofs.Common.{◌≡◌, ◌≢◌, ℕ, Bool, false, List, length, map, option_map, Option, Result, MatchResult, refl, sym, ◌∙◌, arith}
use Rattle.world_host.proofs.Names.{DriveFault, arranged, IsHeldBy, ListLibrary, library_of, IsLibrary, troubled_in, StacksCanFail, HasLatched, state}
use Rattle.world_host.proofs.Names.{IsAt, in_memory, RealServerConnection, Next, hosted, restacked, MemoryDrives, MemorySessionState, seen_side}
use Rattle.world_host.proofs.Names.{server_of, IsNextWaiting, IsHosting, AreInSlotsExcept, IsOnlineAt}
use Rattle.rmt_server.specs.Laws.{FreeIsClosed, StaysAtElsewhere}
use Rattle.world_host.proofs.Lying.{lie_arranged}
use Rattle.world_host.proofs.Tidied.{none_online}

cannot : (stacks : ListLibrary) → stacks.trouble ≡ false → troubled_in stacks.library ≡ 0 → StacksCanFail stacks → ⊥
cannot stacks quiet lying f = grind arith

module _ (free : FreeIsClosed in_memory) (elsewhere : StaysAtElsewhere in_memory) {drives : MemoryDrives} {sides : List (Option RealServerConnection)}
    {next : Next}
    (h : IsHosting drives sides next) (d : ℕ) (none : IsHeldBy drives.holds d 0) (stacks : ListLibrary)
    (same : length stacks.library.drives ≡ length drives.stacks.library.drives)
    (others : (e : ℕ) → e ≢ d → HasLatched IsLibrary drives.stacks e → HasLatched IsLibrary stacks e) where
  abbrev after : MemoryDrives
  after = record { holds = drives.holds; stacks = stacks }

  session_state_stays : (session_state : MemorySessionState) → IsAt in_memory (state drives session_state)
      → IsAt in_memory (state after session_state)
  session_state_stays session_state at = elsewhere drives after session_state d at (free drives session_state d at none) at.own refl same others

  waiting_stays : (n : ℕ) (x : Next) → IsNextWaiting drives n x → IsNextWaiting after n x
  waiting_stays n x w = grind (arith, session_state_stays)

  -- no side is online at the drive
  pub none_there : IsOnlineAt (map (option_map seen_side) sides) d → ⊥
  none_there = none_online sides d (λ k s e. free drives s.session d (h.live k s e).at none)

  restacked_tidy : {U : Type 0} (names : List (List ℕ)) (result : Result U DriveFault)
      → MatchResult result (λ _. library_of stacks ≡ arranged (library_of drives.stacks) d names) (λ _. library_of stacks ≡ library_of drives.stacks)
      → AreInSlotsExcept (library_of stacks) (IsOnlineAt (map (option_map seen_side) sides))
  restacked_tidy names result e =
      grind (arith, lie_arranged (library_of drives.stacks) d names (IsOnlineAt (map (option_map seen_side) sides)) h.tidy none_there)

  pub restacked_hosting : {U : Type 0} (names : List (List ℕ)) (result : Result U DriveFault)
      → MatchResult result (λ _. library_of stacks ≡ arranged (library_of drives.stacks) d names) (λ _. library_of stacks ≡ library_of drives.stacks)
      → IsLibrary stacks (library_of stacks) → (StacksCanFail stacks → StacksCanFail drives.stacks) → IsHosting after sides next
  restacked_hosting names result order told quiet =
      let untroubled : StacksCanFail drives.stacks → ⊥ = cannot drives.stacks h.quiet h.lying in
      record {
        live = λ k s e. (let l = h.live k s e in grind (arith, session_state_stays));
        held = h.held;
        waiting = waiting_stays (length sides) next h.waiting;
        told = told;
        paired = h.paired ∙ sym same;
        quiet = grind (arith, untroubled, quiet);
        lying = grind (arith, untroubled, quiet);
        tidy = restacked_tidy names result order;
      }

-- the order is seen, or nothing where it was refused
pub restacked_seen : {U : Type 0} (drives : MemoryDrives) (stacks : ListLibrary) (sides : List (Option RealServerConnection)) (ready : Bool) (d : ℕ)
    (names : List (List ℕ)) (result : Result U DriveFault)
    → MatchResult result (λ _. library_of stacks ≡ arranged (library_of drives.stacks) d names) (λ _. library_of stacks ≡ library_of drives.stacks)
    → MatchResult result (λ _. hosted (server_of (record { holds = drives.holds; stacks = stacks }) sides) ready ≡ hosted
    (restacked (server_of drives sides) d names) ready)
    (λ _. hosted (server_of (record { holds = drives.holds; stacks = stacks }) sides) ready ≡ hosted (server_of drives sides) ready)
restacked_seen drives stacks sides ready d names result e = grind arith
