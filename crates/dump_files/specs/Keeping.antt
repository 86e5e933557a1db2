-- A checkpoint is kept in a file. Public contracts cite it.
use Rattle.std.specs.Prelude.{◌≡◌, ℕ, List, Result, Ok, Err}
use Rattle.whole_files.specs.WholeFile.{WholeFileKind}
use Rattle.whole_files.specs.declared.whole_file.FileFailed.{FileFailed}
use Rattle.dump_files.specs.declared.kept_checkpoint.KeepFault.{KeepFault}
use Rattle.dump_files.specs.declared.kept_checkpoint.KeepFault.TheVariants.{Unwritten, OutOfMemory}

-- The result of replacing a file by this text. After `Unwritten` a replacement was tried and
-- failed; after `OutOfMemory` the file is unchanged.
abbrev pub IsKept : {F : Type 0} → WholeFileKind F → List ℕ → F → F → Result Unit KeepFault → Type 0
IsKept k text old new (Ok x) = k.takes old text (Ok x) new
IsKept k text old new (Err Unwritten) = (failed : FileFailed) × k.takes old text (Err failed) new
IsKept k text old new (Err OutOfMemory) = new ≡ old
