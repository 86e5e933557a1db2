-- The invariant of a world in memory, and the effect of an event on it. No public contract needs
-- it.
use Rattle.std.specs.Prelude.{◌≡◌, ℕ, false, List, Option, Some, Result, Ok, Err}
use Rattle.dump_run.specs.Blocks.{listed}
use Rattle.dump_run.specs.Checkpoint.{SpellsCheckpoint}
use Rattle.dump_client.specs.Client.{IsPayload}
use Rattle.world_model.specs.World.{World, numbered}
use Rattle.world_model.specs.Events.{PlainEvent}
use Rattle.world_model.specs.Rows.{Possible}
use Rattle.world_model.specs.Steps.{Happens}
pub use Rattle.world_model.specs.Owning.{is_in_attempt, IsClients, IsOwned, IsBegun}
use Rattle.tape_world.specs.declared.stop.EventStop.{EventStop}
use Rattle.tape_world.specs.declared.stop.EventStop.TheVariants.{NotPossible, OutOfMemory}
use Rattle.tape_world.specs.declared.caller.Begun.{Begun as RealBegun}
use Rattle.tape_world.specs.declared.caller.WorldClient.{WorldClient as RealCaller}
use Rattle.tape_world.specs.declared.caller.KeptRun.{KeptRun}

-- The event happened. Or it is not possible, or an allocation failed, and nothing has changed.
abbrev pub IsEvent : World → PlainEvent → Result Unit EventStop → World → Type 0
IsEvent old event (Ok x) new = Happens old event new
IsEvent old event (Err NotPossible) new = (new ≡ old) × (Possible old event → ⊥)
IsEvent old event (Err OutOfMemory) new = new ≡ old

-- the client reads the payload with which its run was begun, without an injected fault
abbrev pub IsSourced : List RealBegun → Option RealCaller → Type 0
IsSourced begun caller =
    (c : RealCaller) → caller ≡ Some c
    → (b : RealBegun) × (failures : ℕ) × (numbered begun c.number ≡ Some b) × (c.client.source ≡ listed b.payload.blocks false failures)

-- Each payload fits its run. The saved run was begun, and its text is the checkpoint of that run
-- with the saved counts.
pub record IsBacked (begun : List RealBegun) (kept : Option KeptRun) : Type 0 where
  pub shaped : (n : ℕ) (b : RealBegun) → numbered begun n ≡ Some b → IsPayload b.run b.payload.blocks
  pub text : (k : KeptRun) → kept ≡ Some k
      → (b : RealBegun) × (numbered begun k.run ≡ Some b) × SpellsCheckpoint k.text.items b.run k.counts.items
