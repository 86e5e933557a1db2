-- What events without a fault leave, from the law of a link without faults.
use Rattle.tape_world.proofs.Layers.{common_steps, arith, World, PlainEvent, Runs, PlainDriveSpec, AreGoodDrives, first_world, LeavesInOrder, ℕ, zero, suc, List, [], ◌∷◌, take, AreFaultless, VolumesInOrder}

-- events before an event are without a fault where all are
faultless_take : (i : ℕ) (events : List PlainEvent) → AreFaultless events → AreFaultless (take i events)
faultless_take zero events whole = tt
faultless_take (suc i) [] whole = tt
faultless_take (suc i) (event ∷ events) whole = (whole.0, faultless_take i events whole.1)

-- by the law of a link without faults
pub some_in_order : ((drive : PlainDriveSpec) (events : List PlainEvent) (w : World) → AreGoodDrives (drive ∷ []) → AreFaultless events
    → Runs (first_world (drive ∷ [])) events w → VolumesInOrder drive w)
    → (old new : World) (events : List PlainEvent) (i : ℕ) → Runs old (take i events) new → LeavesInOrder old events new
some_in_order law old new events i run = grind (arith, common_steps, faultless_take)
