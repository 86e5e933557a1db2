-- The parts of a new world. A plain value is what contracts use for a value that the code has in
-- memory. Public contracts cite it.
use Rattle.std.specs.Prelude.{ℕ, Bool, false, not, ◌||◌, List, [], ◌∷◌, ◌++◌, map, Some}
use Rattle.std.specs.List.{list_any}
use Rattle.std.specs.Str.{bytes_eq}
use Rattle.tape.specs.Trouble.{TroubledTape}
use Rattle.drives.specs.TapeLibrary.{ReelSlot, slot, Drive, drive_with, LibraryOf, library, drive_at, with_drive_at}
use Rattle.drives.specs.ListLibrary.{blank_reel}
use Rattle.drives.specs.Arranging.{are_distinct}
use Rattle.world_model.specs.First.{PlainDriveSpec}
use Rattle.tape_world.specs.declared.drive_spec.DriveSpec.{DriveSpec}

-- the names of a drive's reels
abbrev pub reels_of : DriveSpec → List (List ℕ)
reels_of d = map (λ n. n.now) d.reels.now

-- the plain value of a `DriveSpec`
abbrev pub plain_drive_spec : DriveSpec → PlainDriveSpec
plain_drive_spec d = record { name = d.name.now; capacity = d.capacity; reels = reels_of d }

-- whether a reel of one of `drives` has that name
abbrev pub names_again : List DriveSpec → List ℕ → Bool
names_again drives name = list_any (λ d. list_any (λ n. bytes_eq name n.now) d.reels.now) drives

-- whether a reel of the first drive has the name of another reel
abbrev pub reel_again : List DriveSpec → Bool
reel_again [] = false
reel_again (d ∷ drives) = not (are_distinct (reels_of d)) || list_any (λ n. names_again drives n.now) d.reels.now

-- blank reels of these names
abbrev pub blank_slots : ℕ → List (List ℕ) → List (ReelSlot TroubledTape)
blank_slots capacity names = map (λ n. slot n (Some (blank_reel capacity))) names

-- the drive with its reels, all of them blank
abbrev pub laid_drive : DriveSpec → Drive TroubledTape
laid_drive d = drive_with d.name.now (blank_slots d.capacity (reels_of d))

-- the drives with their reels, all of them blank, and an empty bin
abbrev pub laid_library : List DriveSpec → LibraryOf TroubledTape
laid_library drives = library (map laid_drive drives) []

-- the library with these reels added at the end of the stack of drive `d`
abbrev pub with_slots : LibraryOf TroubledTape → ℕ → List (ReelSlot TroubledTape) → LibraryOf TroubledTape
with_slots s d slots = with_drive_at s d (drive_with (drive_at s d).name ((drive_at s d).stack ++ slots))

-- the library with one drive added, whose reels are blank
abbrev pub with_laid : LibraryOf TroubledTape → DriveSpec → LibraryOf TroubledTape
with_laid s d = library (s.drives ++ laid_drive d ∷ []) s.bin
