-- Why no name of a new world's drives and reels is taken.
use Rattle.tape_world.proofs.Layers.{common_steps, ◌≡◌, ℕ, zero, suc, ◌+◌, ◌<◌, ◌≤◌, Bool, true, false, List, [], ◌∷◌, ◌++◌, length, drop, map, get_or, Some, None, refl, sym, ap, subst, ◌∙◌, append_assoc, drop-cons, arith, flat_map, list_any, bytes_eq, append-nil, length-map, map-append, list_any-append, sum_by-append, sum_by-cons, bytes_eq-Decides, TroubledTape, ReelSlot, slot, Drive, drive_with, LibraryOf, library, drive_at, with_drive_at, slots_in, names_in, times, EachReelOnce, IsDriveNamed, ListLibrary, blank_reel, with_drive, IsDriveAdded, IsReelAdded, are_distinct, DriveFault, bit, named}
use Rattle.tape_world.proofs.Layers.{times_named, sum_by_with_drive, any_count, names_from, AreGoodDrives, DriveSpec, plain_drive_spec, reels_of, blank_slots, laid_drive, laid_library, with_laid, with_slots, Result, Ok, Err, get_or-map, map-map}
use Rattle.std.proofs.Math.Numerals.{suc-eq-add-one}
use Rattle.drives.specs.declared.fault.DriveFault.TheVariants.{OutOfMemory, NameTaken}
use Rattle.tape_world.proofs.Apart.{all_reels, good_parts}
use Rattle.tape_world.proofs.Made.{laid_after, laid_on, slot_names, stack_names}

any_there : (xs ys : List (List ℕ)) (n : List ℕ) → list_any (bytes_eq n) (xs ++ n ∷ ys) ≡ true
any_there xs ys n = grind (arith, common_steps, list_any-append, bytes_eq-Decides)

-- of names that differ one is no other
distinct_apart : (xs ys : List (List ℕ)) (n : List ℕ) (k : ℕ) → are_distinct (xs ++ n ∷ ys) ≡ true → k < length xs → get_or xs k [] ≡ n → ⊥
distinct_apart [] ys n k distinct l is = absurd (omega (arith, l))
distinct_apart (x ∷ xs) ys n zero distinct l is =
    let there = subst (λ m. list_any (bytes_eq m) (xs ++ n ∷ ys) ≡ true) (sym is) (any_there xs ys n) in grind (arith, common_steps)
distinct_apart (x ∷ xs) ys n (suc k) distinct l is = grind (arith, common_steps, distinct_apart xs ys n k)

once_step : (name x : List ℕ) (xs : List (List ℕ)) (b : Bool) → bytes_eq name x ≡ b → list_any (bytes_eq x) xs ≡ false → times name xs ≤ 1
    → times name (x ∷ xs) ≤ 1
once_step name x xs true e apart less =
    let here : bit (bytes_eq name x) ≡ 1 = ap bit e in
    let other : times name xs ≡ times x xs = ap (λ n. times n xs) ((bytes_eq-Decides name x).0 e) in
    grind (arith, any_count (bytes_eq x) xs, sum_by-cons (λ n. bit (bytes_eq name n)) x xs)
once_step name x xs false e apart less = grind (arith, common_steps, sum_by-cons, bit)

-- names that differ stand once
distinct_once : (names : List (List ℕ)) → are_distinct names ≡ true → (name : List ℕ) → times name names ≤ 1
distinct_once [] distinct name = omega arith
distinct_once (x ∷ xs) distinct name =
    let rest = λ (apart : are_distinct xs ≡ true). distinct_once xs apart name in
    grind (arith, common_steps, once_step name x xs (bytes_eq name x) refl)

-- no name stands twice among the reels of good drives
good_once : (drives : List DriveSpec) → AreGoodDrives (map plain_drive_spec drives) → EachReelOnce (laid_library drives)
good_once drives good name =
    let is : names_in (laid_library drives) ≡ all_reels drives = ap (map (λ x. x.name)) (append-nil (flat_map (λ r. r.stack) (map laid_drive drives)))
    ∙ stack_names laid_drive reels_of (λ d. slot_names (Some (blank_reel d.capacity)) (reels_of d)) drives in
    subst (λ ns. times name ns ≤ 1) (sym is) (distinct_once (all_reels drives) (good_parts drives good).3 name)

-- ---- reels

name_free : (s : LibraryOf TroubledTape) (d : ℕ) (x : ReelSlot TroubledTape) (rest : List (ReelSlot TroubledTape)) → d < length s.drives
    → EachReelOnce (with_slots s d (x ∷ rest))
    → 0 < times x.name (names_in s) → ⊥
name_free s d x rest l once taken =
    let r = drive_with (drive_at s d).name ((drive_at s d).stack ++ x ∷ rest) in
    let all = sum_by_with_drive (named x.name) s d r l in
    let stack = sum_by-append (named x.name) (drive_at s d).stack (x ∷ rest) in
    let own : named x.name x ≡ 1 = ap bit ((bytes_eq-Decides x.name x.name).1 refl) in
    absurd (omega (
      arith,
      all,
      stack,
      sum_by-cons (named x.name) x rest,
      times_named x.name (slots_in s),
      times_named x.name (slots_in (with_drive_at s d r)),
      once x.name,
      own,
      taken,
    ))

-- a reel is refused for want of memory alone
pub next_fault : {A U : Type 0} (f : A → List ℕ) (first : LibraryOf TroubledTape) (now new : ListLibrary) (d capacity : ℕ) (names : List A) (i : ℕ) (x : A)
    (fault : DriveFault) (r : Result U DriveFault)
    → r ≡ Err fault → IsReelAdded now d (f (get_or names i x)) capacity r new → d < length now.library.drives → i < length names
    → with_slots now.library d (blank_slots capacity (map f (drop i names))) ≡ with_slots first d (blank_slots capacity (map f names))
    → EachReelOnce (with_slots first d (blank_slots capacity (map f names))) → fault ≡ OutOfMemory
next_fault f first now new d capacity names i x NameTaken r is h l m same once =
    absurd (name_free now.library d (slot (f (get_or names i x)) (Some (blank_reel capacity))) (blank_slots capacity (map f (drop (i + 1) names))) l
    (subst (λ ns. EachReelOnce (with_slots now.library d (blank_slots capacity ns))) (names_from f names i x m)
    (subst (λ (s : LibraryOf TroubledTape). EachReelOnce s) (sym same) once))
    ((subst (λ q. IsReelAdded now d (f (get_or names i x)) capacity q new) is h).0))
next_fault f first now new d capacity names i x OutOfMemory r is h l m same once = refl
next_fault f first now new d capacity names i x _ r is h l m same once = absurd (subst (λ q. IsReelAdded now d (f (get_or names i x)) capacity q new) is h)

-- ---- drives

-- its reels will be there once
pub reels_once : (old made : ListLibrary) (d : DriveSpec) (number : ℕ) → IsDriveAdded old d.name.now (Ok number) made → EachReelOnce (with_laid old.library d)
    → EachReelOnce (with_slots made.library number (blank_slots d.capacity (reels_of d)))
reels_once old made d number added once =
    let is = ap (λ (s : ListLibrary). with_slots s.library number (blank_slots d.capacity (reels_of d))) added.2
    ∙ ap (λ n. with_slots (with_drive old.library d.name.now) n (blank_slots d.capacity (reels_of d))) added.1 ∙ laid_on old.library d in
    subst (λ (s : LibraryOf TroubledTape). EachReelOnce s) (sym is) once

fewer : (name : List ℕ) (all_drives more : List (Drive TroubledTape)) (bin : List (ReelSlot TroubledTape))
    → times name (names_in (library all_drives bin)) ≤ times name (names_in (library (all_drives ++ more) bin))
fewer name all_drives more bin = grind (arith, common_steps)

pub next_drive : (drives : List DriveSpec) (i : ℕ) (d : DriveSpec) → i < length drives → drop i drives ≡ get_or drives i d ∷ drop (i + 1) drives
next_drive drives i d l = drop-cons drives i d l ∙ ap (λ m. get_or drives i d ∷ drop m drives) (suc-eq-add-one i)

module _ (now : LibraryOf TroubledTape) (drives : List DriveSpec) (i : ℕ) (x : DriveSpec) (next : drop i drives ≡ x ∷ drop (i + 1) drives)
    (same : laid_after now (drop i drives) ≡ laid_library drives) where
  abbrev rest : List (Drive TroubledTape)
  rest = map laid_drive (drop (i + 1) drives)

  all_of : library (now.drives ++ laid_drive x ∷ rest) now.bin ≡ laid_library drives
  all_of = ap (laid_after now) (sym next) ∙ same

  pub drive_once : AreGoodDrives (map plain_drive_spec drives) → EachReelOnce (with_laid now x)
  drive_once good name =
      let is = ap (λ all_drives. library all_drives now.bin) (append_assoc now.drives (laid_drive x ∷ []) rest) ∙ all_of in
      omega (
        arith,
        fewer name (now.drives ++ laid_drive x ∷ []) rest now.bin,
        good_once drives good name,
        ap (λ (s : LibraryOf TroubledTape). times name (names_in s)) is,
      )

  names_are : map (λ r. r.name) now.drives ++ x.name.now ∷ map (λ r. r.name) rest ≡ map (λ d. d.name.now) drives
  names_are =
      sym (map-append (λ r. r.name) now.drives (laid_drive x ∷ rest)) ∙ ap (λ (s : LibraryOf TroubledTape). map (λ r. r.name) s.drives) all_of
      ∙ map-map (λ (r : Drive TroubledTape). r.name) laid_drive drives

  pub drive_free : AreGoodDrives (map plain_drive_spec drives) → IsDriveNamed x.name.now now None
  drive_free good k l is =
      distinct_apart (map (λ r. r.name) now.drives) (map (λ r. r.name) rest) x.name.now k (ap are_distinct names_are ∙ (good_parts drives good).2)
      (omega (arith, l, length-map now.drives (λ r. r.name))) (get_or-map (λ r. r.name) now.drives k (drive_with [] []) [] l ∙ is)
