-- Drives, stacks and bin in memory: what is told of them is moved as they are.
use Rattle.std.proofs.Common.{◌≡◌, ℕ, ◌+◌, ◌<◌, ◌≤◌, List, [], ◌∷◌, ◌++◌, length, map, flat_map, take, drop, Option, Some, None, is_some, IsSome, true, Result, Ok, Err, refl, sym, ap, ◌∙◌, subst, inl, inr, arith, get_or, set}
use Rattle.drives.proofs.Names.{get_or-map, get_or_default, map-set, map-append, length-map, sum_by, bytes_eq-Decides, option_map, TroubledTape}
use Rattle.drives.proofs.Names.{ReelSlot, slot, Drive, drive_with, LibraryOf, TapeLibrary, library, drive_at, with_drive_at, slots_in, names_of}
use Rattle.drives.proofs.Names.{names_in, times, EachReelOnce, IsDriveNamed, waiting_reel, with_first, at_first, to_bin, ListLibrary, with_library}
use Rattle.drives.proofs.Names.{with_reel, blank_reel, at_rest, rest_slot, rest_drive, library_of, IsLibrary, is_set_in, StacksCanFail}
use Rattle.drives.proofs.Names.{first_reel, after_failure, IsDriveAdded, IsReelAdded, IsReelLatched, IsStocked, DriveFault, Device}
use Rattle.std.proofs.lemmas.Simd.{map-map}
use Rattle.drives.proofs.Shops.{bit, named, times_named, length_sum, sum_by_added, slots_drive, KeepsNames, once_kept, length_kept, keeps_at_first, keeps_to_bin, bin_below, bin_within}

-- a drive at rest
pub drive_at_rest : (s : ListLibrary) (d : ℕ) → drive_at (library_of s) d ≡ rest_drive (drive_at s.library d)
drive_at_rest s d = get_or-map rest_drive s.library.drives d (drive_with [] [])

pub waiting_rest : (s : ListLibrary) (d : ℕ) → waiting_reel (library_of s) d ≡ option_map at_rest (waiting_reel s.library d)
waiting_rest s d = grind (arith, drive_at_rest s d)

-- the names of the reels at rest are theirs
slots_rest : (drives : List (Drive TroubledTape)) → flat_map (λ r. r.stack) (map rest_drive drives) ≡ map rest_slot (flat_map (λ r. r.stack) drives)
slots_rest [] = refl
slots_rest (r ∷ drives) = grind (arith, slots_rest drives, map-append rest_slot r.stack (flat_map (λ r. r.stack) drives))

pub slots_in_rest : (s : ListLibrary) → slots_in (library_of s) ≡ map rest_slot (slots_in s.library)
slots_in_rest s = grind (arith, slots_rest s.library.drives, map-append rest_slot (flat_map (λ r. r.stack) s.library.drives) s.library.bin)

names_rest : (s : ListLibrary) → names_in (library_of s) ≡ names_in s.library
names_rest s =
    ap names_of (slots_in_rest s) ∙ map-map (λ x. x.name) rest_slot (slots_in s.library)

pub once_rest : (s : ListLibrary) → EachReelOnce s.library → EachReelOnce (library_of s)
once_rest s once name = subst (λ names. times name names ≤ 1) (sym (names_rest s)) (once name)

-- stacks whose reels have different names are seen as `library_of` has them
pub told : (s : ListLibrary) → EachReelOnce s.library → IsLibrary s (library_of s)
told s once = (refl, once_rest s once)

pub at_first_rest : (s : ListLibrary) (d : ℕ) (reel : Option TroubledTape) → library_of (with_library s (at_first s.library d reel)) ≡ at_first (library_of s) d (option_map at_rest reel)
at_first_rest s d reel = grind (arith, map-set {A = Drive TroubledTape}, drive_at_rest s d)

pub to_bin_rest : (s : ListLibrary) (d : ℕ) (reel : TroubledTape) → library_of (with_library s (to_bin s.library d reel)) ≡ to_bin (library_of s) d (at_rest reel)
to_bin_rest s d reel =
    let r = drive_at s.library d in
    let drives = map-set rest_drive s.library.drives d (drive_with r.name (drop 1 r.stack)) in
    grind (arith, drives, map-append rest_slot s.library.bin (with_first (Some reel) (take 1 r.stack)), drive_at_rest s d)

-- no name comes or goes where the stacks are those in which none does
pub keeps_is : (old new made : ListLibrary) → new ≡ made → KeepsNames old.library made.library → KeepsNames old.library new.library
keeps_is old new made is same = subst (λ (x : ListLibrary). KeepsNames old.library x.library) (sym is) same

-- what the fields keep, where no name comes or goes
pub stocked_kept : (s t : LibraryOf TroubledTape) (reels room more : ℕ) → KeepsNames s t → room ≤ more → IsStocked s reels room → IsStocked t reels more
stocked_kept s t reels room more same m h =
    record { once = once_kept s t same h.once; counted = h.counted ∙ sym (length_kept s t same); fits = omega (arith, h.fits) }

pub stocked_same : (s t : LibraryOf TroubledTape) (reels room more : ℕ) → t ≡ s → room ≤ more → IsStocked s reels room → IsStocked t reels more
stocked_same s t reels room more e = stocked_kept s t reels room more (λ f. ap (λ x. sum_by (λ x. f x.name) (slots_in x)) e)

-- a drive has the name that is told
pub named_rest : (s : ListLibrary) (name : List ℕ) (found : Option ℕ) → IsDriveNamed name s.library found → (t : TapeLibrary) → IsLibrary s t → IsDriveNamed name t found
named_rest s name found h t tells = grind (arith, drive_at_rest s, length-map s.library.drives rest_drive)

pub read_at : (s : LibraryOf TroubledTape) (d : ℕ) (old : Drive TroubledTape) → d < length s.drives → old ≡ get_or s.drives d old → old ≡ drive_at s d
read_at s d old l e = e ∙ get_or_default s.drives d old (drive_with [] []) l

-- the stack of a drive that was read out of the list
pub stack_at : {s now : ListLibrary} {old : Drive TroubledTape} {stack : List (ReelSlot TroubledTape)} (d : ℕ) → s ≡ now → d < length now.library.drives → old ≡ get_or s.library.drives d old → stack ≡ old.stack
    → stack ≡ (drive_at now.library d).stack
stack_at {s} {now} {old} d same l e is = grind (arith, read_at now.library d old l)

-- a latch that the trouble refused, where a reel was waiting
pub latch_fails : {s old new : ListLibrary} {r : Drive TroubledTape} (d : ℕ) (fault : DriveFault) → s ≡ old → s.trouble ≡ true → d < length old.library.drives → r ≡ get_or s.library.drives d r → IsSome (first_reel r.stack)
    → fault ≡ Device → new ≡ after_failure old → IsReelLatched old d (Err fault) new
latch_fails {s} {old} {new} {r} d fault same on l e some is failed =
    let at : r ≡ drive_at old.library d = grind (arith, read_at old.library d r l) in
    rw is (grind arith, rw at at some, failed)

-- what the fields keep, for a drive that was read out of the list and is put back with another first reel
pub stocked_first : (s : LibraryOf TroubledTape) (d : ℕ) (old new : Drive TroubledTape) (reel : Option TroubledTape) (reels room : ℕ) → d < length s.drives → old ≡ get_or s.drives d old
    → new ≡ drive_with old.name (with_first reel old.stack) → IsStocked s reels room → IsStocked (library (set s.drives d new) s.bin) reels room
stocked_first s d old new reel reels room l e n h =
    let is : old ≡ drive_at s d = read_at s d old l e in
    rw (n, is) (stocked_kept s (at_first s d reel) reels room room (keeps_at_first s d reel l) (omega arith) h)

pub read_some : (s now : ListLibrary) (d : ℕ) (old : Drive TroubledTape) → s ≡ now → d < length now.library.drives → old ≡ get_or s.library.drives d old → 0 < length (drive_at now.library d).stack → 0 < length old.stack
read_some s now d old v l e some = grind (arith, read_at s.library d old)

-- the bin has room for a reel that is on a stack
pub room_some : (s now : ListLibrary) (d : ℕ) (reels room : ℕ) → s ≡ now → d < length now.library.drives → IsStocked s.library reels room → 0 < length (drive_at now.library d).stack → length s.library.bin < room
room_some s now d reels room v l h some = grind (arith, bin_below s.library d)

-- what the fields keep, for a drive whose first reel was moved to the bin
pub stocked_moved : (s now : ListLibrary) (d : ℕ) (old new : Drive TroubledTape) (first : ReelSlot TroubledTape) (reel : TroubledTape) (bin : List (ReelSlot TroubledTape)) (reels room more : ℕ)
    → s ≡ now → d < length now.library.drives → 0 < length (drive_at now.library d).stack → old ≡ get_or s.library.drives d old → old.stack ≡ first ∷ new.stack → new.name ≡ old.name
    → bin ≡ s.library.bin ++ slot first.name (Some reel) ∷ [] → more ≡ room → IsStocked s.library reels room → IsStocked (library (set s.library.drives d new) bin) reels more
stocked_moved s now d old new first reel bin reels room more v l some e f n b m h =
    let l : d < length s.library.drives = rw v l in
    let is = read_at s.library d old l e in
    let some : 0 < length (drive_at s.library d).stack = rw v some in
    let moved = stocked_kept s.library (to_bin s.library d reel) reels room more (keeps_to_bin s.library d reel l some) (omega (arith, m)) h in
    let same : library (set s.library.drives d new) bin ≡ to_bin s.library d reel = grind arith in
    rw same moved

-- the library after the first reel of a drive was moved to the bin
pub moved_is : {s now : ListLibrary} {old new : Drive TroubledTape} {first : ReelSlot TroubledTape} {bin : List (ReelSlot TroubledTape)} (d : ℕ) (reel : TroubledTape) → s ≡ now → d < length now.library.drives
    → old ≡ get_or s.library.drives d old → old.stack ≡ first ∷ new.stack → new.name ≡ old.name → bin ≡ s.library.bin ++ slot first.name (Some reel) ∷ []
    → record s { library = library (set s.library.drives d new) bin } ≡ with_library now (to_bin now.library d reel)
moved_is {s} {now} {old} {new} d reel v l e f n b =
    let is = read_at now.library d old l in
    grind (arith, is)

-- a name that is found is a drive's
pub named_some : {X : Type 0} (name : List ℕ) (s : LibraryOf X) (found : Option ℕ) → IsDriveNamed name s found → true ≡ is_some found → (d : ℕ) × IsDriveNamed name s (Some d)
named_some name s None h some = absurd cc
named_some name s (Some d) h some = (d, h)

-- a drive more
pub keeps_drive : {X : Type 0} (s : LibraryOf X) (name : List ℕ) → KeepsNames s (library (s.drives ++ drive_with name [] ∷ []) s.bin)
keeps_drive s name f = ap (λ slots. sum_by (λ x. f x.name) slots) (slots_drive s.drives s.bin name)

-- each reel stands once where one of a new name was added
once_added : (s : LibraryOf TroubledTape) (d : ℕ) (x : ReelSlot TroubledTape) → d < length s.drives → times x.name (names_in s) ≡ 0 → EachReelOnce s
    → EachReelOnce (with_drive_at s d (drive_with (drive_at s d).name ((drive_at s d).stack ++ x ∷ [])))
once_added s d x l free once y =
    let after = with_drive_at s d (drive_with (drive_at s d).name ((drive_at s d).stack ++ x ∷ [])) in
    let sum = sum_by_added (named y) s d x l in
    grind (arith, bytes_eq-Decides y x.name, once y, times_named y (slots_in s), times_named y (slots_in after))

-- a reel more, of a new name
pub stocked_reel : (s : LibraryOf TroubledTape) (d : ℕ) (old new : Drive TroubledTape) (name : List ℕ) (reel : Option TroubledTape) (reels room more : ℕ) → d < length s.drives → old ≡ get_or s.drives d old
    → new ≡ drive_with old.name (old.stack ++ slot name reel ∷ []) → times name (names_in s) ≡ 0 → reels + 1 ≤ more → IsStocked s reels room
    → IsStocked (library (set s.drives d new) s.bin) (reels + 1) more
stocked_reel s d old new name reel reels room more l e n free m h =
    let x = slot name reel in
    let after = with_drive_at s d (drive_with (drive_at s d).name ((drive_at s d).stack ++ x ∷ [])) in
    let made : IsStocked after (reels + 1) more = record {
      once = once_added s d x l free h.once;
      counted = omega (arith, sum_by_added (λ x. 1) s d x l, length_sum (slots_in s), length_sum (slots_in after), h.counted);
      fits = m;
    } in
    rw (n, read_at s d old l e) made

-- so many reels are there, and those of the bin are among them
pub bin_fits : (s : LibraryOf TroubledTape) (reels room : ℕ) → IsStocked s reels room → length s.bin ≤ reels
bin_fits s reels room h = omega (arith, bin_within s, h.counted)

-- they tell what they are after a drive was added
pub drive_told : (old new : ListLibrary) (name : List ℕ) (result : Result ℕ DriveFault) → EachReelOnce old.library → IsDriveAdded old name result new → IsLibrary new (library_of new)
drive_told old new name (Ok d) once h = told new (once_kept old.library new.library (keeps_is old new _ h.2 (keeps_drive old.library name)) once)
drive_told old new name (Err why) once h = let same : new ≡ old = grind arith in rw same (told old once)

-- and none of their devices can fail that could not before
pub drive_quiet : (old new : ListLibrary) (name : List ℕ) (result : Result ℕ DriveFault) → IsDriveAdded old name result new → StacksCanFail new → StacksCanFail old
drive_quiet old new name result h f = grind (arith, slots_drive old.library.drives old.library.bin name)

-- they tell what they are after a reel was added
pub reel_told : {U : Type 0} (old new : ListLibrary) (d : ℕ) (name : List ℕ) (capacity : ℕ) (result : Result U DriveFault) → d < length old.library.drives → EachReelOnce old.library → IsReelAdded old d name capacity result new
    → IsLibrary new (library_of new)
reel_told old new d name capacity (Ok x) l once h =
    let made = once_added old.library d (slot name (Some (blank_reel capacity))) l h.0 once in
    rw h.1 (told (with_library old (with_reel old.library d name capacity)) made)
reel_told old new d name capacity (Err why) l once h = let same : new ≡ old = grind arith in rw same (told old once)

pub reel_quiet : {U : Type 0} (old new : ListLibrary) (d : ℕ) (name : List ℕ) (capacity : ℕ) (result : Result U DriveFault) → d < length old.library.drives → IsReelAdded old d name capacity result new → StacksCanFail new → StacksCanFail old
reel_quiet old new d name capacity (Ok x) l h (inl e) = inl (grind arith)
reel_quiet old new d name capacity (Ok x) l h (inr m) =
    let sum = sum_by_added (λ x. bit (is_set_in x.reel)) old.library d (slot name (Some (blank_reel capacity))) l in
    inr (omega (arith, sum, rw h.1 at m))
reel_quiet old new d name capacity (Err why) l h f = grind arith
