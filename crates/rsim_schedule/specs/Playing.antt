-- What events print. Public contracts rely on this (through Ending).
use Rattle.std.specs.Prelude.{ℕ, Bool, true, false, List, [], ◌∷◌, ◌++◌, Option, Some, None, Result, Err}
use Rattle.rmt_wire.specs.Counted.{Counting}
use Rattle.dump_client.specs.declared.fault.AttemptFault.{AttemptFault}
use Rattle.rdump_net.specs.Lines.{failure_line}
use Rattle.rmt_wire.specs.Print.{IsPrinted}
use Rattle.world_model.specs.World.{World}
use Rattle.world_model.specs.Events.{PlainEvent}
use Rattle.world_model.specs.Steps.{Runs}
use Rattle.rsim_schedule.specs.declared.halt.Halt.{Halt}
use Rattle.rsim_schedule.specs.declared.halt.Halt.TheVariants.{StreamFailed}

-- the line of a failed attempt, as a dump prints it; nothing if there is none
abbrev pub failed_line : Option (ℕ × AttemptFault) → List ℕ
failed_line None = []
failed_line (Some failure) = failure_line failure.0 failure.1

-- Events lead from `first` to a world and print this text: one line for each event that makes an
-- attempt fail.
pub data Plays (first : World) : World → List ℕ → Type 0 where
  none : Plays first first []
  one_more : {before after : World} {text : List ℕ} (event : PlainEvent) → Plays first before text → Runs before (event ∷ []) after
      → Plays first after (text ++ failed_line after.failure)

-- whether no write failed
abbrev pub is_whole : {T : Type 0} → Result T Halt → Bool
is_whole (Err StreamFailed) = false
is_whole result = true

-- Events led from one world to the other, and what they print was printed. If a write failed, only
-- a beginning of it was.
abbrev pub IsPlayed : {W : Type 0} → (W → Option (List ℕ)) → World → Counting W → Bool → World → Counting W → Type 0
IsPlayed contents w out whole w' out' = (text : List ℕ) × Plays w w' text × IsPrinted contents text out out' whole
