-- The entries that an attempt wrote, as far as they were accepted. Public contracts cite it.
use Rattle.std.specs.Prelude.{◌≡◌, ℕ, ◌+◌, ◌≤◌, Bool, true, false, List, [], ◌∷◌, ◌++◌, length, Contains, Some}
use Rattle.tape.specs.Tape.{PlainEntry}
use Rattle.tape.specs.Tape.PlainEntry.{Record, Mark}
use Rattle.dump_run.specs.Run.{PlainRun}
use Rattle.dump_run.specs.Label.{label}
use Rattle.dump_client.specs.Lawful.{steps_before}
use Rattle.dump_client.specs.declared.step.Step.TheVariants.{Operation}
use Rattle.dump_client.specs.declared.step.TapeOp.TheVariants.{Unload}
use Rattle.world_model.specs.World.{World, AttemptState, Writing, numbered}
use Rattle.world_model.specs.Changes.{opening}
-- A volume on a reel: its blocks, and the whole volume.
pub use Rattle.volume_check.specs.Volume.{block_records, whole_volume}

-- the label's record, if the flag is set
abbrev pub label_if : Bool → PlainRun → ℕ → ℕ → List PlainEntry
label_if true run volume first = Record (label run volume first) ∷ []
label_if false run volume first = []

-- a mark, if the flag is set
abbrev pub mark_if : Bool → List PlainEntry
mark_if true = Mark ∷ []
mark_if false = []

-- the accepted writes of an attempt: the label, its blocks from its first on, and the mark
abbrev pub attempt_written : PlainRun → List (List ℕ) → AttemptState → List PlainEntry
attempt_written run payload d = label_if d.label run d.volume d.first ++ (block_records payload d.first d.blocks ++ mark_if d.mark)

-- Connection `k` opened the reel for writing, and no other session has written on it since.
abbrev pub IsAlone : World → ℕ → List ℕ → Type 0
IsAlone w k reel = (i : ℕ) × (numbered w.opens i ≡ Some (opening k reel))
    × ((x : Writing) → Contains w.writings x → x.reel ≡ reel → i ≤ x.after → x.connection ≡ k)

-- No write of the attempt met a device fault, and no other session has written on the reel since
-- the attempt's connection opened it.
abbrev pub IsQuiet : World → ℕ → AttemptState → List ℕ → Type 0
IsQuiet w k d reel = (d.fault ≡ false) × IsAlone w k reel

-- If the mark was accepted, no request after it was carried out, so MTOFFL was not.
abbrev pub IsBeforeOffline : PlainRun → AttemptState → Type 0
IsBeforeOffline run d =
    d.mark ≡ true → d.carried ≤ length (steps_before run d.first (d.first + d.blocks) (Operation (Unload (d.first + d.blocks))))
