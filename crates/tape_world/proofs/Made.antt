-- How a new world's stacks are laid.
use Rattle.tape_world.proofs.Layers.{common_steps, true, false, Option, refl, subst, ◌≡◌, ℕ, ◌+◌, ◌<◌, List, [], ◌∷◌, ◌++◌, length, drop, map, get_or, replicate, Some, OnOk, sym, ap, ◌∙◌, append_assoc, arith, is_err, Contains, Any-from_list_any, flat_map-map, list_any, flat_map, flat_map-cons, bytes_eq-Decides, length-set, get_or-set_same, set-set, append-nil, length-map, map-append, on_ok_weaker, bytes_eq, DriveFault, TroubledTape, KeptReel, kept_reel, ReelSlot, slot, Drive, drive_with, LibraryOf, TapeLibrary, library, drive_at, times, names_in, ListLibrary, library_of, blank_reel, rest_slot}
use Rattle.tape_world.proofs.Layers.{rest_drive, with_drive, with_reel, IsDriveAdded, IsReelAdded, names_from, any_count, server, Hosted, hosted, PlainDriveSpec, blank_drive, first_world, DriveSpec, IsLibraryKnown, plain_drive_spec, reels_of, blank_slots, laid_drive, laid_library, with_laid, with_slots, Result, Ok, map-map, set_at}
use Rattle.world_host.specs.Lying.{AreInSlots, AreStacksInSlots, AreAllInSlots}

one_slot : (s : LibraryOf TroubledTape) (d : ℕ) (name : List ℕ) (capacity : ℕ) (slots : List (ReelSlot TroubledTape)) → d < length s.drives
    → with_slots (with_reel s d name capacity) d slots ≡ with_slots s d (slot name (Some (blank_reel capacity)) ∷ slots)
one_slot s d name capacity slots l = grind (arith, common_steps, get_or-set_same, set-set, append_assoc)

reel_added : {U : Type 0} (old new : ListLibrary) (d : ℕ) (name : List ℕ) (capacity : ℕ) (r : Result U DriveFault) → IsReelAdded old d name capacity r new
    → is_err r ≡ false
    → new.library ≡ with_reel old.library d name capacity
reel_added old new d name capacity r h e = grind (arith, common_steps)

pub same_drives : {U : Type 0} (old new : ListLibrary) (d : ℕ) (name : List ℕ) (capacity : ℕ) (r : Result U DriveFault)
    → IsReelAdded old d name capacity r new → is_err r ≡ false
    → length new.library.drives ≡ length old.library.drives
same_drives old new d name capacity r h e =
    ap (λ (s : LibraryOf TroubledTape). length s.drives) (reel_added old new d name capacity r h e)
    ∙ length-set old.library.drives d (drive_with (drive_at old.library d).name ((drive_at old.library d).stack ++ slot name (Some (blank_reel capacity)) ∷ []))

-- the reels that are to be added yet
pub next_reel : {A U : Type 0} (f : A → List ℕ) (first : LibraryOf TroubledTape) (now new : ListLibrary) (d capacity : ℕ) (names : List A) (i : ℕ) (x : A)
    (r : Result U DriveFault)
    → d < length now.library.drives → i < length names → IsReelAdded now d (f (get_or names i x)) capacity r new → is_err r ≡ false
    → with_slots now.library d (blank_slots capacity (map f (drop i names))) ≡ with_slots first d (blank_slots capacity (map f names))
    → with_slots new.library d (blank_slots capacity (map f (drop (i + 1) names))) ≡ with_slots first d (blank_slots capacity (map f names))
next_reel f first now new d capacity names i x r l m h e same =
    let added = reel_added now new d (f (get_or names i x)) capacity r h e in
    let one = one_slot now.library d (f (get_or names i x)) capacity (blank_slots capacity (map f (drop (i + 1) names))) l in
    ap (λ s. with_slots s d (blank_slots capacity (map f (drop (i + 1) names)))) added ∙ one
    ∙ ap (λ ns. with_slots now.library d (blank_slots capacity ns)) (sym (names_from f names i x m)) ∙ same

-- a drive that was added, with its reels
pub laid_on : (s : LibraryOf TroubledTape) (d : DriveSpec)
    → with_slots (with_drive s d.name.now) (length s.drives) (blank_slots d.capacity (reels_of d)) ≡ with_laid s d
laid_on s d = grind (arith, common_steps, set_at)

-- the drives that are to be added yet
abbrev pub laid_after : LibraryOf TroubledTape → List DriveSpec → LibraryOf TroubledTape
laid_after s drives = library (s.drives ++ map laid_drive drives) s.bin

-- what an added drive came to, with its reels
pub drive_laid : {U E : Type 0} (old made : ListLibrary) (new : LibraryOf TroubledTape) (d : DriveSpec) (number : ℕ) (r : Result U E)
    → IsDriveAdded old d.name.now (Ok number) made
    → OnOk r (new ≡ with_slots made.library number (blank_slots d.capacity (reels_of d))) → OnOk r (new ≡ with_laid old.library d)
drive_laid old made new d number r added laid = grind (arith, common_steps, on_ok_weaker, laid_on)

-- ---- what is told of them

kept_drives : (drives : List DriveSpec) → map rest_drive (map laid_drive drives) ≡ map blank_drive (map plain_drive_spec drives)
kept_drives [] = refl
kept_drives (d ∷ drives) =
    ap (λ slots. drive_with d.name.now slots ∷ map rest_drive (map laid_drive drives))
    (map-map rest_slot (λ n. slot n (Some (blank_reel d.capacity))) (reels_of d))
    ∙ ap (λ all_drives. blank_drive (plain_drive_spec d) ∷ all_drives) (kept_drives drives)

first_library : (s : ListLibrary) (drives : List DriveSpec) → s.library ≡ laid_library drives
    → library_of s ≡ library (map blank_drive (map plain_drive_spec drives)) []
first_library s drives is = grind (arith, common_steps, kept_drives)

slots_lie : (capacity : ℕ) (names : List (List ℕ)) → AreInSlots (map (λ name. slot name (Some (kept_reel [] capacity))) names)
slots_lie capacity [] = tt
slots_lie capacity (name ∷ names) = (refl, slots_lie capacity names)

drives_lie : (drives : List PlainDriveSpec) → AreStacksInSlots (map blank_drive drives)
drives_lie [] = tt
drives_lie (d ∷ drives) = (slots_lie d.capacity d.reels, drives_lie drives)

pub none_latched : (s : ListLibrary) (drives : List DriveSpec) → s.library ≡ laid_library drives → AreAllInSlots (library_of s)
none_latched s drives is = subst (λ (x : TapeLibrary). AreAllInSlots x) (sym (first_library s drives is)) (drives_lie (map plain_drive_spec drives), tt)

-- where nothing has happened yet
pub first_server : (host : Hosted) (s : ListLibrary) (drives : List DriveSpec) (n : ℕ) → s.library ≡ laid_library drives
    → host ≡ hosted (server (library_of s) (replicate n 0) []) false → n ≡ length drives → host.server ≡ (first_world (map plain_drive_spec drives)).server
first_server host s drives n laid is count = grind (arith, common_steps, replicate, first_library, length-map)

-- a name that occurs is among the names
times_has : (name : List ℕ) (names : List (List ℕ)) → 0 < times name names → Contains names name
times_has name names some =
    let is : list_any (bytes_eq name) names ≡ true = grind (arith, any_count (bytes_eq name) names) in
    let (k, x, within, at, equal) = Any-from_list_any (bytes_eq name) names is in
    subst (Contains names) (sym ((bytes_eq-Decides name x).0 equal)) (k, within, at)

-- slots have the names that they were made of
pub slot_names : {X : Type 0} (o : Option X) (names : List (List ℕ)) → map (λ x. x.name) (map (λ n. slot n o) names) ≡ names
slot_names o [] = refl
slot_names o (name ∷ names) = ap (λ ns. name ∷ ns) (slot_names o names)

-- the names of all reels of drives, by those of each drive
pub stack_names : {D X : Type 0} (make : D → Drive X) (reels : D → List (List ℕ)) → ((d : D) → map (λ x. x.name) (make d).stack ≡ reels d) → (drives : List D)
    → map (λ (x : ReelSlot X). x.name) (flat_map (λ (r : Drive X). r.stack) (map make drives)) ≡ flat_map reels drives
stack_names make reels same [] = refl
stack_names {X = X} make reels same (d ∷ drives) =
    let more = map-append (λ (x : ReelSlot X). x.name) (make d).stack (flat_map (λ (r : Drive X). r.stack) (map make drives)) in
    let cons = flat_map-cons (λ (r : Drive X). r.stack) (make d) (map make drives) in
    grind (arith, more, cons, same d, stack_names make reels same drives, flat_map-cons reels d drives)

pub known_new : (names : List (List ℕ)) (s : TapeLibrary) (drives : List DriveSpec) → names ≡ flat_map reels_of drives
    → s ≡ library (map blank_drive (map plain_drive_spec drives)) [] → IsLibraryKnown names s
known_new names s drives is laid =
    let stacks = stack_names blank_drive (λ d. d.reels) (λ d. slot_names (Some (kept_reel [] d.capacity)) d.reels) (map plain_drive_spec drives)
    ∙ flat_map-map (λ d. d.reels) plain_drive_spec drives in
    let bin = append-nil (flat_map (λ (r : Drive KeptReel). r.stack) (map blank_drive (map plain_drive_spec drives))) in
    let all : names_in s ≡ names = grind (arith, stacks, bin) in
    record { each = λ name has. times_has name names (subst (λ l. 0 < times name l) all has) }
