-- The entries of a whole volume on a reel, and the sum of its record file. Public contracts cite
-- it.
use Rattle.std.specs.Prelude.{ℕ, zero, suc, List, [], ◌∷◌, ◌++◌, get_or}
use Rattle.tape.specs.Tape.{PlainEntry}
use Rattle.tape.specs.Tape.PlainEntry.{Record, Mark}
use Rattle.tape.specs.RecordFile.{images_of}
use Rattle.dump_run.specs.Run.{PlainRun}
use Rattle.dump_run.specs.Label.{label}
use Rattle.sha2.specs.Sha256.{sha256}

-- `count` blocks from `first` on, one record each; a block that the payload does not have is an
-- empty record
abbrev pub block_records : List (List ℕ) → ℕ → ℕ → List PlainEntry
block_records payload first zero = []
block_records payload first (suc count) = Record (get_or payload first []) ∷ block_records payload (suc first) count

-- a whole volume: its label, `count` blocks from its first on, and one mark
abbrev pub whole_volume : PlainRun → List (List ℕ) → ℕ → ℕ → ℕ → List PlainEntry
whole_volume run payload volume first count = Record (label run volume first) ∷ (block_records payload first count ++ Mark ∷ [])

-- the SHA-256 of the record file that has these entries and nothing else
abbrev pub file_sum : List PlainEntry → List ℕ
file_sum entries = sha256 (images_of entries)

-- the sum of the volume with this number, first block and number of blocks, of a run and its payload
abbrev pub volume_sum : PlainRun → List (List ℕ) → ℕ → ℕ → ℕ → List ℕ
volume_sum run payload volume first count = file_sum (whole_volume run payload volume first count)
