-- Drives in folders: their state, without the contents of the folders, and the effect of each call.
-- A drive's latched reel is the first of its stack: it is in the drive until it is laid back or
-- moved to the bin. Public contracts cite it.
use Rattle.std.specs.Prelude.{◌≡◌, ◌≢◌, ◌⊎◌, ℕ, ◌<◌, Bool, true, false, List, [], length, slice_set, slice_index_or, map, Option, Some, None, Result, Ok, Err}
use Rattle.std.specs.List.{Contains}
use Rattle.tape.specs.Failures.{raised}
use Rattle.tape.specs.RecordFile.{FileTape}
use Rattle.file_medium.specs.Files.{FileCount}
use Rattle.drives.specs.Calls.{StacksCall}
use Rattle.drives.specs.Calls.StacksCall.{Latch, LayBack, Move}
use Rattle.drives.specs.declared.fault.DriveFault.{DriveFault}
use Rattle.drives.specs.declared.fault.DriveFault.TheVariants.{NoReel, Device, OutOfMemory, NameTaken}

-- A drive: its name, the folder of its stack, and whether a reel is latched. `failed` is the record
-- of a failed sync of that reel's file, if there is one: how many times the file had been truncated
-- to zero length then.
pub record FolderRow : Type 0 where
  pub name : List ℕ
  pub folder : List ℕ
  pub latched : Bool
  pub failed : Option ℕ

-- a drive where no sync has failed
abbrev pub folder_row : List ℕ → List ℕ → Bool → FolderRow
folder_row name folder latched = record { name = name; folder = folder; latched = latched; failed = None }

-- the drives, the bin's folder, the capacity of each reel in bytes, and the count of device
-- failures
pub record FolderLibrary : Type 0 where
  pub rows : List FolderRow
  pub bin : List ℕ
  pub capacity : ℕ
  pub failures : ℕ

-- builds a FolderLibrary from its parts
abbrev pub folder_library : List FolderRow → List ℕ → ℕ → ℕ → FolderLibrary
folder_library rows bin capacity failures = record { rows = rows; bin = bin; capacity = capacity; failures = failures }

-- drive d, or a drive without name and folder if there is no such drive
abbrev pub row_at : FolderLibrary → ℕ → FolderRow
row_at s d = slice_index_or s.rows d (folder_row [] [] false)

-- drive d with a reel latched or with none, and with no failed sync
abbrev pub with_latched : FolderLibrary → ℕ → Bool → FolderLibrary
with_latched s d latched = record s { rows = slice_set s.rows d (folder_row (row_at s d).name (row_at s d).folder latched) }

-- drive d with a failed sync, of a file that had been truncated to zero length this often
abbrev pub with_failed : FolderLibrary → ℕ → ℕ → FolderLibrary
with_failed s d truncations = record s { rows = slice_set s.rows d (record (row_at s d) { failed = Some truncations }) }

-- no sync has failed at drive d since its file was last truncated to zero length
abbrev pub IsSyncable : FolderLibrary → ℕ → FileCount → Type 0
IsSyncable s d file = (row_at s d).failed ≢ Some file.truncations

-- the state after one more device failure
abbrev pub after_fault : FolderLibrary → FolderLibrary
after_fault s = record s { failures = raised s.failures }

-- the folder is that of a stack, or the bin's
abbrev pub IsFolderOf : FolderLibrary → List ℕ → Type 0
IsFolderOf s folder = Contains (map (λ r. r.folder) s.rows) folder ⊎ (folder ≡ s.bin)

-- the number of the first drive with that name, or None if no drive has it
abbrev pub IsRowNamed : List ℕ → FolderLibrary → Option ℕ → Type 0
IsRowNamed name s None = (k : ℕ) → k < length s.rows → (row_at s k).name ≢ name
IsRowNamed name s (Some d) = (d < length s.rows) × ((row_at s d).name ≡ name) × ((k : ℕ) → k < d → (row_at s k).name ≢ name)

-- The device failed, which is counted, or an allocation failed, which changes nothing.
abbrev pub IsFolderRefused : FolderLibrary → DriveFault → FolderLibrary → Type 0
IsFolderRefused old Device new = new ≡ after_fault old
IsFolderRefused old OutOfMemory new = new ≡ old
IsFolderRefused old _ new = ⊥

-- No call of the file has failed. The file was neither truncated nor written to, and no write was
-- attempted.
abbrev pub IsUntouched : FileCount → Type 0
IsUntouched file = (file.failures ≡ 0) × (file.truncations ≡ 0) × (file.written ≡ false)

-- A reel was latched where none was: at its beginning, with the capacity, and on an untouched file.
-- It can fail with NoReel, and if a reel is latched it does; this changes nothing. It can also fail
-- with OutOfMemory, which changes nothing, and with Device, which is counted.
abbrev pub IsFolderLatch : FolderLibrary → ℕ → Result (FileTape FileCount) DriveFault → FolderLibrary → Type 0
IsFolderLatch old d (Ok reel) new =
    ((row_at old d).latched ≡ false) × (reel.offset ≡ 0) × (reel.capacity ≡ old.capacity) × IsUntouched reel.medium
    × (new ≡ with_latched old d true)
IsFolderLatch old d (Err NoReel) new = new ≡ old
IsFolderLatch old d (Err fault) new = ((row_at old d).latched ≡ false) × IsFolderRefused old fault new

-- The latched reel was moved. No sync of its file has failed since it was last truncated to zero
-- length. It fails with NameTaken, which changes nothing. It fails with Device, which is counted; a
-- failed sync may be recorded.
abbrev pub IsFolderMove : {U : Type 0} → FolderLibrary → ℕ → FileCount → Result U DriveFault → FolderLibrary → Type 0
IsFolderMove old d file (Ok done) new = ((row_at old d).latched ≡ true) × IsSyncable old d file × (new ≡ with_latched old d false)
IsFolderMove old d file (Err Device) new = (new ≡ after_fault old) ⊎ (new ≡ after_fault (with_failed old d file.truncations))
IsFolderMove old d file (Err NameTaken) new = ((row_at old d).latched ≡ true) × IsSyncable old d file × (new ≡ old)
IsFolderMove old d file (Err _) new = ⊥

-- the effect of a call of stacks in folders
abbrev pub IsFolderCall : FolderLibrary → FolderLibrary → StacksCall (FileTape FileCount) → Type 0
IsFolderCall old new (Latch d result) = IsFolderLatch old d result new
IsFolderCall old new (LayBack d reel) = new ≡ with_latched old d false
IsFolderCall old new (Move d reel result) = IsFolderMove old d reel.medium result new
