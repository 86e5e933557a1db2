-- Drives, stacks and bin in memory. A drive's latched reel is the first of its stack: it is in the
-- drive until it is laid back or moved to the bin. Public contracts cite it.
use Rattle.std.specs.Prelude.{◌≡◌, ◌⊎◌, ℕ, ◌+◌, ◌<◌, ◌≤◌, Bool, true, false, cond, List, [], ◌∷◌, ◌++◌, length, map, Option, Some, None, Result, Ok, Err, MatchResult, IsSome}
use Rattle.std.specs.List.{count_by}
use Rattle.std.specs.Option.{option_map}
use Rattle.tape.specs.Failures.{raised}
use Rattle.tape.specs.Tape.{tape, entries_of}
use Rattle.tape.specs.Trouble.{TroubledTape}
use Rattle.tape.specs.declared.trouble.Trouble.{Trouble}
use Rattle.tape.specs.declared.trouble.Trouble.TheVariants.{None as NoTrouble}
use Rattle.drives.specs.TapeLibrary.{KeptReel, kept_reel, ReelSlot, slot, Drive, drive_with, LibraryOf, TapeLibrary, library, drive_at, with_drive_at, slots_in, names_in, times, EachReelOnce, IsDriveNamed, waiting_reel, at_first, to_bin}
use Rattle.drives.specs.Calls.{StacksCall, given_by}
use Rattle.drives.specs.Calls.StacksCall.{Latch, LayBack, Move}
use Rattle.drives.specs.Stacking.{HasLatched}
use Rattle.drives.specs.declared.fault.DriveFault.{DriveFault}
use Rattle.drives.specs.declared.fault.DriveFault.TheVariants.{NoReel, Device, OutOfMemory, NameTaken}

-- The drives and the bin with their reels, whether the next latch or move meets a device failure,
-- and the count of device failures.
pub record ListLibrary : Type 0 where
  pub library : LibraryOf TroubledTape
  pub trouble : Bool
  pub failures : ℕ

-- `s` with the library `reels` in place of its own
abbrev pub with_library : ListLibrary → LibraryOf TroubledTape → ListLibrary
with_library s reels = record s { library = reels }

-- no drive, an empty bin and no trouble
abbrev pub empty_library : ListLibrary
empty_library = record { library = library [] []; trouble = false; failures = 0 }

-- an empty reel with no trouble
abbrev pub blank_reel : ℕ → TroubledTape
blank_reel capacity = record { tape = tape [] []; capacity = capacity; trouble = NoTrouble; failures = 0 }

-- the reel at its beginning
abbrev pub rewound : TroubledTape → TroubledTape
rewound r = record r { tape = tape [] (entries_of r.tape) }

-- the reel as it is kept: its entries and capacity, without its position and trouble
abbrev pub at_rest : TroubledTape → KeptReel
at_rest r = kept_reel (entries_of r.tape) r.capacity

-- the slot with its reel at rest
abbrev pub rest_slot : ReelSlot TroubledTape → ReelSlot KeptReel
rest_slot x = slot x.name (option_map at_rest x.reel)

-- the drive with its reels at rest
abbrev pub rest_drive : Drive TroubledTape → Drive KeptReel
rest_drive r = drive_with r.name (map rest_slot r.stack)

-- the contents of the stacks: their library, with the reels at rest
abbrev pub library_of : ListLibrary → TapeLibrary
library_of s = library (map rest_drive s.library.drives) (map rest_slot s.library.bin)

-- The contents of the stacks are this library, and no two of its reels have the same name.
abbrev pub IsLibrary : ListLibrary → TapeLibrary → Type 0
IsLibrary stacks s = (s ≡ library_of stacks) × EachReelOnce s

-- whether this is a trouble, and not `NoTrouble`
abbrev pub is_set : Trouble → Bool
is_set NoTrouble = false
is_set _ = true

-- whether there is a reel, and its trouble is set
abbrev pub is_set_in : Option TroubledTape → Bool
is_set_in None = false
is_set_in (Some r) = is_set r.trouble

-- 1 if there is a reel and its trouble is set, otherwise 0
abbrev pub troubles_of : Option TroubledTape → ℕ
troubles_of reel = cond (is_set_in reel) 1 0

-- the number of reels on the stacks and in the bin with a trouble set
abbrev pub troubled_in : LibraryOf TroubledTape → ℕ
troubled_in s = count_by (λ x. is_set_in x.reel) (slots_in s)

-- a device can fail: the device of the stacks, or that of a reel on them or in the bin
abbrev pub StacksCanFail : ListLibrary → Type 0
StacksCanFail s = (s.trouble ≡ true) ⊎ (0 < troubled_in s.library)

-- the stacks after a device call failed: the failure is counted and the trouble is cleared
abbrev pub after_failure : ListLibrary → ListLibrary
after_failure s = record s { trouble = false; failures = raised s.failures }

-- the library with one more drive, which has an empty stack
abbrev pub with_drive : LibraryOf TroubledTape → List ℕ → LibraryOf TroubledTape
with_drive s name = library (s.drives ++ drive_with name [] ∷ []) s.bin

-- the library with one more reel, at the end of the stack of drive d
abbrev pub with_reel : LibraryOf TroubledTape → ℕ → List ℕ → ℕ → LibraryOf TroubledTape
with_reel s d name capacity = let r = drive_at s d in with_drive_at s d (drive_with r.name (r.stack ++ slot name (Some (blank_reel capacity)) ∷ []))

-- A drive was added and has the next number. This fails only with NameTaken, if a drive has that
-- name, and with OutOfMemory. Then nothing is changed.
abbrev pub IsDriveAdded : ListLibrary → List ℕ → Result ℕ DriveFault → ListLibrary → Type 0
IsDriveAdded old name (Ok d) new =
    IsDriveNamed name old.library None × (d ≡ length old.library.drives) × (new ≡ with_library old (with_drive old.library name))
IsDriveAdded old name (Err NameTaken) new = ((d : ℕ) × IsDriveNamed name old.library (Some d)) × (new ≡ old)
IsDriveAdded old name (Err OutOfMemory) new = IsDriveNamed name old.library None × (new ≡ old)
IsDriveAdded old name (Err _) new = ⊥

-- An empty reel was added. This fails only with NameTaken, if a reel has that name, and with
-- OutOfMemory. Then nothing is changed.
abbrev pub IsReelAdded : {U : Type 0} → ListLibrary → ℕ → List ℕ → ℕ → Result U DriveFault → ListLibrary → Type 0
IsReelAdded old d name capacity (Ok x) new =
    (times name (names_in old.library) ≡ 0) × (new ≡ with_library old (with_reel old.library d name capacity))
IsReelAdded old d name capacity (Err NameTaken) new = (0 < times name (names_in old.library)) × (new ≡ old)
IsReelAdded old d name capacity (Err OutOfMemory) new = (times name (names_in old.library) ≡ 0) × (new ≡ old)
IsReelAdded old d name capacity (Err _) new = ⊥

-- The first reel of drive d was latched and rewound. It keeps its trouble and its count of
-- failures. This fails only with NoReel, if no reel is there, and with Device, if one is there and
-- the trouble is set. Device is counted and clears the trouble.
abbrev pub IsReelLatched : ListLibrary → ℕ → Result TroubledTape DriveFault → ListLibrary → Type 0
IsReelLatched old d (Ok reel) new =
    (old.trouble ≡ false) × ((r : TroubledTape) × (waiting_reel old.library d ≡ Some r) × (reel ≡ rewound r))
    × (new ≡ with_library old (at_first old.library d None))
IsReelLatched old d (Err NoReel) new = (waiting_reel old.library d ≡ None) × (new ≡ old)
IsReelLatched old d (Err Device) new = (old.trouble ≡ true) × IsSome (waiting_reel old.library d) × (new ≡ after_failure old)
IsReelLatched old d (Err _) new = ⊥

-- The reel was moved to the end of the bin. This fails only with Device, if the trouble is set. The
-- failure is counted and clears the trouble.
abbrev pub IsReelMoved : ListLibrary → ℕ → TroubledTape → Result Unit DriveFault → ListLibrary → Type 0
IsReelMoved old d reel (Ok done) new = (old.trouble ≡ false) × (new ≡ with_library old (to_bin old.library d reel))
IsReelMoved old d reel (Err Device) new = (old.trouble ≡ true) × (new ≡ after_failure old)
IsReelMoved old d reel (Err _) new = ⊥

-- the latched reel is first on its stack again, unchanged
abbrev pub IsReelLaidBack : ListLibrary → ℕ → TroubledTape → ListLibrary → Type 0
IsReelLaidBack old d reel new = new ≡ with_library old (at_first old.library d (Some reel))

-- exactly what a call of stacks in memory changes
abbrev pub IsListStacksCall : ListLibrary → ListLibrary → StacksCall TroubledTape → Type 0
IsListStacksCall old new (Latch d result) = IsReelLatched old d result new
IsListStacksCall old new (LayBack d reel) = IsReelLaidBack old d reel new
IsListStacksCall old new (Move d reel result) = IsReelMoved old d reel result new

-- How a call changes the number of reels on the stacks and in the bin with a trouble set. A latch
-- removes its reel along with the reel's trouble. Laying a reel back, or moving it, adds that
-- reel's trouble. A call that fails changes nothing.
abbrev pub TroublesMove : StacksCall TroubledTape → LibraryOf TroubledTape → LibraryOf TroubledTape → Type 0
TroublesMove (Latch d result) s now = troubled_in now + troubles_of (given_by result) ≡ troubled_in s
TroublesMove (LayBack d reel) s now = troubled_in now ≡ troubled_in s + troubles_of (Some reel)
TroublesMove (Move d reel result) s now =
    MatchResult result (λ _. troubled_in now ≡ troubled_in s + troubles_of (Some reel)) (λ _. troubled_in now ≡ troubled_in s)

-- a call of stacks in memory changes the number of troubles as TroublesMove states
abbrev pub MovesTroubles : ListLibrary → StacksCall TroubledTape → ListLibrary → Type 0
MovesTroubles old call new = IsListStacksCall old new call → TroublesMove call old.library new.library

-- drive d exists in stacks with known contents, and a reel is latched at it
abbrev pub HasReelAt : ListLibrary → ℕ → Type 0
HasReelAt s d = (d < length s.library.drives) × (told : TapeLibrary) × IsLibrary s told × HasLatched IsLibrary s d

-- No two reels have the same name, `reels` is the number of reels, and the bin has room for all of
-- them.
pub record IsStocked (s : LibraryOf TroubledTape) (reels room : ℕ) : Type 0 where
  pub once : EachReelOnce s
  pub counted : reels ≡ length (slots_in s)
  pub fits : reels ≤ room
