-- Drives with their stacks of reels, and the bin. A drive's latched reel is the first of its stack:
-- it is in the drive until it is laid back or moved to the bin. Public contracts cite it.
use Rattle.std.specs.Prelude.{◌≡◌, ◌≢◌, ℕ, ◌<◌, ◌≤◌, List, [], ◌∷◌, ◌++◌, length, map, flat_map, take, drop, slice_set, slice_index_or, Option, Some, None}
use Rattle.std.specs.List.{count_by}
use Rattle.std.specs.Str.{bytes_eq}
use Rattle.tape.specs.Tape.{PlainEntry}

-- a reel at rest: its entries, and its capacity in bytes
pub record KeptReel : Type 0 where
  pub entries : List PlainEntry
  pub capacity : ℕ

-- builds a KeptReel from its parts
abbrev pub kept_reel : List PlainEntry → ℕ → KeptReel
kept_reel entries capacity = record { entries = entries; capacity = capacity }

-- a place for one reel on a stack or in the bin: its name, and the reel unless it is latched
pub record ReelSlot (X : Type 0) : Type 0 where
  pub name : List ℕ
  pub reel : Option X

-- builds a ReelSlot from its parts
abbrev pub slot : {X : Type 0} → List ℕ → Option X → ReelSlot X
slot name reel = record { name = name; reel = reel }

-- a drive: its name and its stack, on which a latched reel keeps the first slot
pub record Drive (X : Type 0) : Type 0 where
  pub name : List ℕ
  pub stack : List (ReelSlot X)

-- builds a Drive from its parts
abbrev pub drive_with : {X : Type 0} → List ℕ → List (ReelSlot X) → Drive X
drive_with name stack = record { name = name; stack = stack }

-- the drives and the bin, with each reel described by an X
pub record LibraryOf (X : Type 0) : Type 0 where
  pub drives : List (Drive X)
  pub bin : List (ReelSlot X)

-- builds a LibraryOf from its parts
abbrev pub library : {X : Type 0} → List (Drive X) → List (ReelSlot X) → LibraryOf X
library drives bin = record { drives = drives; bin = bin }

-- a library whose reels are at rest
abbrev pub TapeLibrary : Type 0
TapeLibrary = LibraryOf KeptReel

-- drive d, or a drive without name and reels if there is no such drive
abbrev pub drive_at : {X : Type 0} → LibraryOf X → ℕ → Drive X
drive_at s d = slice_index_or s.drives d (drive_with [] [])

-- the library with drive d replaced
abbrev pub with_drive_at : {X : Type 0} → LibraryOf X → ℕ → Drive X → LibraryOf X
with_drive_at s d r = library (slice_set s.drives d r) s.bin

-- the slots of all reels: those of the stacks, then those of the bin
abbrev pub slots_in : {X : Type 0} → LibraryOf X → List (ReelSlot X)
slots_in s = flat_map (λ r. r.stack) s.drives ++ s.bin

-- the names of these slots
abbrev pub names_of : {X : Type 0} → List (ReelSlot X) → List (List ℕ)
names_of slots = map (λ x. x.name) slots

-- the names of all reels, on the stacks (latched or not) and in the bin
abbrev pub names_in : {X : Type 0} → LibraryOf X → List (List ℕ)
names_in s = names_of (slots_in s)

-- how many times a name occurs among these
abbrev pub times : List ℕ → List (List ℕ) → ℕ
times name names = count_by (bytes_eq name) names

-- no two reels have the same name
abbrev pub EachReelOnce : {X : Type 0} → LibraryOf X → Type 0
EachReelOnce s = (name : List ℕ) → times name (names_in s) ≤ 1

-- the number of the first drive with that name, or None if no drive has it
abbrev pub IsDriveNamed : {X : Type 0} → List ℕ → LibraryOf X → Option ℕ → Type 0
IsDriveNamed name s None = (k : ℕ) → k < length s.drives → (drive_at s k).name ≢ name
IsDriveNamed name s (Some d) = (d < length s.drives) × ((drive_at s d).name ≡ name) × ((k : ℕ) → k < d → (drive_at s k).name ≢ name)

-- the first reel of a stack, if there is one and it is not latched
abbrev pub first_reel : {X : Type 0} → List (ReelSlot X) → Option X
first_reel [] = None
first_reel (first ∷ rest) = first.reel

-- the reel that a latch of drive d takes, if any
abbrev pub waiting_reel : {X : Type 0} → LibraryOf X → ℕ → Option X
waiting_reel s d = first_reel (drive_at s d).stack

-- the name, if the reel is away, as a latched one is
abbrev pub away_name : {X : Type 0} → List ℕ → Option X → Option (List ℕ)
away_name name None = Some name
away_name name (Some reel) = None

-- the name of the latched reel of a stack, if its first reel is latched
abbrev pub latched_on : {X : Type 0} → List (ReelSlot X) → Option (List ℕ)
latched_on [] = None
latched_on (first ∷ rest) = away_name first.name first.reel

-- the name of the reel that is latched at drive d, if any
abbrev pub latched_at : {X : Type 0} → LibraryOf X → ℕ → Option (List ℕ)
latched_at s d = latched_on (drive_at s d).stack

-- the stack with `reel` in its first slot; None leaves the slot without a reel
abbrev pub with_first : {X : Type 0} → Option X → List (ReelSlot X) → List (ReelSlot X)
with_first reel [] = []
with_first reel (first ∷ rest) = slot first.name reel ∷ rest

-- the library with `reel` in the first slot of drive d
abbrev pub at_first : {X : Type 0} → LibraryOf X → ℕ → Option X → LibraryOf X
at_first s d reel = let r = drive_at s d in with_drive_at s d (drive_with r.name (with_first reel r.stack))

-- the library with the first slot of drive d moved to the end of the bin, with `reel` in it
abbrev pub to_bin : {X : Type 0} → LibraryOf X → ℕ → X → LibraryOf X
to_bin s d reel =
    let r = drive_at s d in
    library (slice_set s.drives d (drive_with r.name (drop 1 r.stack))) (s.bin ++ with_first (Some reel) (take 1 r.stack))

-- the library after the first reel of drive d was latched
abbrev pub after_latch : TapeLibrary → ℕ → TapeLibrary
after_latch s d = at_first s d None

-- the library after the latched reel of drive d was laid back on its stack
abbrev pub after_unlatch : TapeLibrary → ℕ → List PlainEntry → ℕ → TapeLibrary
after_unlatch s d entries capacity = at_first s d (Some (kept_reel entries capacity))

-- the library after the latched reel of drive d was moved to the end of the bin
abbrev pub after_offline : TapeLibrary → ℕ → List PlainEntry → ℕ → TapeLibrary
after_offline s d entries capacity = to_bin s d (kept_reel entries capacity)

-- the bin has a reel with that name
abbrev pub IsNameInBin : {X : Type 0} → LibraryOf X → Option (List ℕ) → Type 0
IsNameInBin s None = ⊥
IsNameInBin s (Some name) = 0 < times name (names_of s.bin)
