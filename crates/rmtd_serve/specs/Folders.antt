-- The stacks of drives in folders, from the arguments of `rmtd`, and what they promise. A drive's
-- latched reel is the first of its stack: it is in the drive until it is laid back or moved to the
-- bin. Public contracts cite it.
use Rattle.std.specs.Prelude.{◌≡◌, ℕ, false, List, length, map, Some, option_map}
use Rattle.tape.specs.RecordFile.{FileTape, HoldsTape, IsFileCall}
use Rattle.tape.specs.Medium.{medium_kind}
use Rattle.file_medium.specs.Files.{FileCount}
use Rattle.drives.specs.declared.view.View.{View}
use Rattle.drives.specs.Calls.{stacks_kind}
use Rattle.drives.specs.Local.{Holders}
use Rattle.drives.specs.Opening.{Kinds}
use Rattle.drives.specs.contracts.local.LocalHoldsHolds.TheImpl.{ghosts as of_holds}
use Rattle.reel_files.specs.Folders.{FolderLibrary, IsFolderCall, folder_row, folder_library}
use Rattle.rmtd_args.specs.Drive.{plain_drive}
use Rattle.rmtd_args.specs.declared.drive_argument.DriveArgument.{DriveArgument}
use Rattle.rmtd_args.specs.declared.rmtd_line.ServerLine.{ServerLine}

-- stacks of these drives with no reel latched and no failure of the device counted
abbrev pub stacks_of : List DriveArgument → List ℕ → ℕ → FolderLibrary
stacks_of arguments bin capacity = folder_library (map (λ d. folder_row d.device d.folder false) (map plain_drive arguments)) bin capacity 0

-- these are the stacks of the drives, the bin and the capacity that the line names
abbrev pub AreStacksOf : ServerLine → FolderLibrary → Type 0
AreStacksOf line stacks = (bin : List ℕ) × (option_map (λ s. s.now) line.bin ≡ Some bin) × (stacks ≡ stacks_of line.drives.items bin line.capacity)

-- What the holds of one thread, stacks in folders and their reels promise. The contents of folders
-- and of their files are not specified.
abbrev pub folder_kinds : Kinds Holders View FolderLibrary (FileTape FileCount)
folder_kinds = record {
  holds = of_holds;
  stacks = stacks_kind (λ _ _. ⊥) (λ s. length s.rows) (λ s. s.failures) (λ _. Unit {0}) (λ old new call. IsFolderCall old new call);
  reels = record {
    holds = HoldsTape (λ _ _. ⊥);
    capacity = λ r. r.capacity;
    failures = λ r. r.medium.failures;
    can_fail = λ _. Unit {0};
    makes = λ old new request answer. IsFileCall (medium_kind (λ _ _. ⊥) (λ m. m.failures) (λ _. Unit {0}) (λ _. 0)) old new request answer;
    GROWS = false;
  };
}
