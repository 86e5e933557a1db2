-- When no two reels of some drives have one name.
use Rattle.tape_world.proofs.Layers.{common_steps, ◌≡◌, ◌↔◌, ℕ, ◌+◌, ◌-◌, ◌≤◌, Bool, true, false, not, ◌&&◌, ◌||◌, List, [], ◌∷◌, ◌++◌, length, take, drop, map, refl, sym, ap, ◌∙◌, arith, flat_map, list_any, bytes_eq, take_all, length-drop, length-map, drop-drop, list_any-append, flat_map-map, flat_map-cons, are_distinct, any_lent, DriveSpec, AreGoodDrives, plain_drive_spec, reels_of, reel_again, names_again}
use Rattle.drives.specs.declared.holds.TheConstants.{DRIVE_LIMIT}

-- the names of all reels
abbrev pub all_reels : List DriveSpec → List (List ℕ)
all_reels drives = flat_map reels_of drives

names_flat : (drives : List DriveSpec) (name : List ℕ) → names_again drives name ≡ list_any (bytes_eq name) (all_reels drives)
names_flat [] name = refl
names_flat (d ∷ drives) name =
    let same = any_lent (λ n. n.now) name d.reels.now in
    grind (arith, names_flat drives name, same, list_any-append (bytes_eq name) (reels_of d) (all_reels drives), flat_map-cons reels_of d drives)

any_same : {A : Type 0} (f : A → List ℕ) (p : A → Bool) (q : List ℕ → Bool) → ((x : A) → p x ≡ q (f x)) → (xs : List A) → list_any p xs ≡ list_any q (map f xs)
any_same f p q same [] = refl
any_same f p q same (x ∷ xs) = ap (λ b. b || list_any p xs) (same x) ∙ ap (λ b. q (f x) || b) (any_same f p q same xs)

distinct_append : (xs ys : List (List ℕ))
    → are_distinct (xs ++ ys) ≡ ((are_distinct xs && not (list_any (λ n. list_any (bytes_eq n) ys) xs)) && are_distinct ys)
distinct_append [] ys = refl
distinct_append (x ∷ xs) ys = grind (arith, common_steps, list_any-append (bytes_eq x) xs ys, distinct_append xs ys)

first_apart : (d : DriveSpec) (drives : List DriveSpec)
    → are_distinct (all_reels (d ∷ drives)) ≡ (not (reel_again (d ∷ drives)) && are_distinct (all_reels drives))
first_apart d drives = grind (arith, common_steps, any_same, names_flat, flat_map-cons, distinct_append)

again : (drives : List DriveSpec) → reel_again drives ≡ true → are_distinct (all_reels drives) ≡ false
again drives h = grind (arith, common_steps, first_apart)

once : (drives : List DriveSpec) → reel_again drives ≡ false → are_distinct (all_reels drives) ≡ are_distinct (all_reels (drop 1 drives))
once drives h = grind (arith, common_steps, first_apart)

tail_is : {A : Type 0} (xs : List A) (i : ℕ) → take (length xs - i) (drop i xs) ≡ drop i xs
tail_is xs i = take_all (length xs - i) (drop i xs) (let n = length-drop i xs in omega (arith, n))

-- a reel's name that stands again
pub reels_no : (drives : List DriveSpec) (i : ℕ) (found : Bool) → found ≡ reel_again (take (length drives - i) (drop i drives)) → found ≡ true
    → are_distinct (all_reels (drop i drives)) ≡ are_distinct (all_reels drives) → false ≡ are_distinct (all_reels drives)
reels_no drives i found h t same = sym (again (drop i drives) (sym (h ∙ ap reel_again (tail_is drives i)) ∙ t)) ∙ same

-- one that does not
pub reels_yet : (drives : List DriveSpec) (i : ℕ) (found : Bool) → found ≡ reel_again (take (length drives - i) (drop i drives)) → found ≡ false
    → are_distinct (all_reels (drop i drives)) ≡ are_distinct (all_reels drives)
    → are_distinct (all_reels (drop (i + 1) drives)) ≡ are_distinct (all_reels drives)
reels_yet drives i found h t same =
    ap (λ xs. are_distinct (all_reels xs)) (sym (drop-drop 1 i drives)) ∙ sym (once (drop i drives) (sym (h ∙ ap reel_again (tail_is drives i)) ∙ t)) ∙ same

names_same : (drives : List DriveSpec) → map (λ d. d.name) (map plain_drive_spec drives) ≡ map (λ d. d.name.now) drives
names_same [] = refl
names_same (d ∷ drives) = ap (λ names. d.name.now ∷ names) (names_same drives)

reels_same : (drives : List DriveSpec) → flat_map (λ d. d.reels) (map plain_drive_spec drives) ≡ all_reels drives
reels_same drives = flat_map-map (λ d. d.reels) plain_drive_spec drives

-- good drives are so many, and of names and reels that differ
pub good_parts : (drives : List DriveSpec) → AreGoodDrives (map plain_drive_spec drives)
    → (1 ≤ length drives) × (length drives ≤ DRIVE_LIMIT) × (are_distinct (map (λ d. d.name.now) drives) ≡ true) × (are_distinct (all_reels drives) ≡ true)
good_parts drives h1 = grind (arith, common_steps, length-map, names_same, reels_same)

pub are_good : (drives : List DriveSpec) → 1 ≤ length drives → length drives ≤ DRIVE_LIMIT → are_distinct (map (λ d. d.name.now) drives) ≡ true → (r : Bool)
    → r ≡ are_distinct (all_reels drives) → (r ≡ true) ↔ AreGoodDrives (map plain_drive_spec drives)
are_good drives some few names r is = grind (arith, common_steps, length-map, names_same, reels_same, good_parts)

pub names_alike : (drives : List DriveSpec) (r : Bool) → r ≡ are_distinct (map (λ d. d.name.now) drives) → r ≡ false
    → (r ≡ true) ↔ AreGoodDrives (map plain_drive_spec drives)
names_alike drives r is not = (λ yes. (let bad : true ≡ false = sym yes ∙ not in absurd cc), λ good. is ∙ (good_parts drives good).2)
