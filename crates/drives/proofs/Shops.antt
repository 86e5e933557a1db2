-- Sums over the reels of a library, before and after reels are moved.
use Rattle.std.proofs.Common.{◌≡◌, ℕ, ◌+◌, ◌<◌, ◌≤◌, Bool, true, false, cond, List, [], ◌∷◌, ◌++◌, length, flat_map, take, drop, Option, Some, None, IsSome, MatchBool, ◌||◌, refl, sym, ◌∙◌, subst, arith}
use Rattle.drives.proofs.Names.{get_or-set_same, append-nil, sum_by_push, sum_by-set, sum_by-append, sum_by-cons, list_any-append, sum_by, count_by, list_any}
use Rattle.drives.proofs.Names.{bytes_eq, ReelSlot, slot, Drive, drive_with, LibraryOf, library, drive_at, with_drive_at, slots_in, names_of, names_in, times}
use Rattle.drives.proofs.Names.{EachReelOnce, first_reel, latched_at, latched_on, with_first, at_first, to_bin}
use Rattle.std.proofs.lemmas.List.Concat.{flat_map-append}

-- a sum over all reels, by drives
sum_by_stacks : {X : Type 0} (f : ReelSlot X → ℕ) (drives : List (Drive X)) → sum_by f (flat_map (λ r. r.stack) drives) ≡ sum_by (λ r. sum_by f r.stack) drives
sum_by_stacks f [] = refl
sum_by_stacks f (r ∷ drives) =
    grind (arith, sum_by-append f r.stack (flat_map (λ r. r.stack) drives), sum_by_stacks f drives, sum_by-cons (λ r. sum_by f r.stack) r drives)

pub sum_by_slots : {X : Type 0} (f : ReelSlot X → ℕ) (s : LibraryOf X) → sum_by f (slots_in s) ≡ sum_by (λ r. sum_by f r.stack) s.drives + sum_by f s.bin
sum_by_slots f s = omega (arith, sum_by-append f (flat_map (λ r. r.stack) s.drives) s.bin, sum_by_stacks f s.drives)

-- a sum after the drive d was replaced
pub sum_by_with_drive : {X : Type 0} (f : ReelSlot X → ℕ) (s : LibraryOf X) (d : ℕ) (r : Drive X) → d < length s.drives
    → sum_by f (slots_in (with_drive_at s d r)) + sum_by f (drive_at s d).stack ≡ sum_by f (slots_in s) + sum_by f r.stack
sum_by_with_drive f s d r l =
    omega (arith, sum_by-set (λ r. sum_by f r.stack) s.drives d r (drive_with [] []) l, sum_by_slots f s, sum_by_slots f (with_drive_at s d r))

-- a sum after the first reel of the drive d was taken away or laid down
pub sum_by_at_first : {X : Type 0} (f : ReelSlot X → ℕ) (s : LibraryOf X) (d : ℕ) (reel : Option X) (first : ReelSlot X) (rest : List (ReelSlot X)) → d < length s.drives
    → (drive_at s d).stack ≡ first ∷ rest → sum_by f (slots_in (at_first s d reel)) + f first ≡ sum_by f (slots_in s) + f (slot first.name reel)
sum_by_at_first f s d reel first rest l e =
    let r = drive_at s d in
    grind (arith, sum_by_with_drive f s d (drive_with r.name (with_first reel r.stack)) l, sum_by-cons f)

-- a sum after the first reel of the drive d was moved to the bin
pub sum_by_to_bin : {X : Type 0} (f : ReelSlot X → ℕ) (s : LibraryOf X) (d : ℕ) (reel : X) (first : ReelSlot X) (rest : List (ReelSlot X)) → d < length s.drives
    → (drive_at s d).stack ≡ first ∷ rest → sum_by f (slots_in (to_bin s d reel)) + f first ≡ sum_by f (slots_in s) + f (slot first.name (Some reel))
sum_by_to_bin f s d reel first rest l e =
    let left = drive_with (drive_at s d).name (drop 1 (drive_at s d).stack) in
    let moved = sum_by_with_drive f s d left l in
    let put = sum_by-append f s.bin (with_first (Some reel) (take 1 (drive_at s d).stack)) in
    grind (arith, sum_by_slots f (with_drive_at s d left), sum_by_slots f (to_bin s d reel), sum_by-cons f first rest)

-- 1 for what is so, and else 0
abbrev pub bit : Bool → ℕ
bit b = cond b 1 0

-- how often a name stands, as a sum over the reels
abbrev pub named : {X : Type 0} → List ℕ → ReelSlot X → ℕ
named name x = cond (bytes_eq name x.name) 1 0

pub times_named : {X : Type 0} (name : List ℕ) (slots : List (ReelSlot X)) → times name (names_of slots) ≡ sum_by (named name) slots
times_named name [] = refl
times_named name (x ∷ slots) =
    grind (arith, sum_by-cons (λ n. cond (bytes_eq name n) 1 0) x.name (names_of slots), times_named name slots, sum_by-cons (named name) x slots)

-- how many there are, as a sum
pub length_sum : {X : Type 0} (xs : List X) → length xs ≡ sum_by (λ x. 1) xs
length_sum [] = refl
length_sum (x ∷ xs) = omega (arith, length_sum xs, sum_by-cons (λ x. 1) x xs)

-- a stack that has a first reel
pub first_of : {X : Type 0} (stack : List (ReelSlot X)) → 0 < length stack → (first : ReelSlot X) × (rest : List (ReelSlot X)) × (stack ≡ first ∷ rest)
first_of [] l = absurd (omega arith)
first_of (first ∷ rest) l = (first, rest, refl)

pub length_waiting : {X : Type 0} (stack : List (ReelSlot X)) (r : X) → first_reel stack ≡ Some r → 0 < length stack
length_waiting stack r e = grind arith

pub length_latched : {X : Type 0} (stack : List (ReelSlot X)) → IsSome (latched_on stack) → 0 < length stack
length_latched stack h = grind arith

-- the reels of t have the names of those of s, wherever they lie
abbrev pub KeepsNames : {X : Type 0} → LibraryOf X → LibraryOf X → Type 0
KeepsNames s t = (f : List ℕ → ℕ) → sum_by (λ x. f x.name) (slots_in t) ≡ sum_by (λ x. f x.name) (slots_in s)

pub times_kept : {X : Type 0} (s t : LibraryOf X) → KeepsNames s t → (name : List ℕ) → times name (names_in t) ≡ times name (names_in s)
times_kept s t same name = times_named name (slots_in t) ∙ same (λ n. bit (bytes_eq name n)) ∙ sym (times_named name (slots_in s))

pub once_kept : {X : Type 0} (s t : LibraryOf X) → KeepsNames s t → EachReelOnce s → EachReelOnce t
once_kept s t same once name = subst (λ n. n ≤ 1) (sym (times_kept s t same name)) (once name)

pub length_kept : {X : Type 0} (s t : LibraryOf X) → KeepsNames s t → length (slots_in t) ≡ length (slots_in s)
length_kept s t same = length_sum (slots_in t) ∙ same (λ n. 1) ∙ sym (length_sum (slots_in s))

same_first : {X : Type 0} (f : List ℕ → ℕ) (reel : Option X) (stack : List (ReelSlot X)) → sum_by (λ x. f x.name) (with_first reel stack) ≡ sum_by (λ x. f x.name) stack
same_first f reel [] = refl
same_first f reel (first ∷ rest) = sum_by-cons (λ x. f x.name) (slot first.name reel) rest ∙ sym (sum_by-cons (λ x. f x.name) first rest)

-- no name comes or goes where the first reel of the drive d is taken away or laid down
pub keeps_at_first : {X : Type 0} (s : LibraryOf X) (d : ℕ) (reel : Option X) → d < length s.drives → KeepsNames s (at_first s d reel)
keeps_at_first s d reel l f =
    let r = drive_at s d in
    omega (arith, sum_by_with_drive (λ x. f x.name) s d (drive_with r.name (with_first reel r.stack)) l, same_first f reel r.stack)

-- and none where it is moved to the bin
pub keeps_to_bin : {X : Type 0} (s : LibraryOf X) (d : ℕ) (reel : X) → d < length s.drives → 0 < length (drive_at s d).stack → KeepsNames s (to_bin s d reel)
keeps_to_bin s d reel l some f = let w = first_of (drive_at s d).stack some in omega (arith, sum_by_to_bin (λ x. f x.name) s d reel w.0 w.1 l w.2)

-- the bin has at most as many reels as there are
pub bin_within : {X : Type 0} (s : LibraryOf X) → length s.bin ≤ length (slots_in s)
bin_within s = omega (arith, length_sum (slots_in s), length_sum s.bin, sum_by_slots (λ x. 1) s)

-- and fewer where one is on a stack
pub bin_below : {X : Type 0} (s : LibraryOf X) (d : ℕ) → d < length s.drives → 0 < length (drive_at s d).stack → length s.bin < length (slots_in s)
bin_below s d l some =
    let e = sum_by-set (λ r. sum_by (λ x. 1) r.stack) s.drives d (drive_with [] []) (drive_with [] []) l in
    omega (arith, length_sum (slots_in s), length_sum s.bin, sum_by_slots (λ x. 1) s, length_sum (drive_at s d).stack, e)

-- the reel that was latched at drive d is away
pub latched_at_first : {X : Type 0} (s : LibraryOf X) (d : ℕ) → d < length s.drives → 0 < length (drive_at s d).stack → IsSome (latched_at (at_first s d None) d)
latched_at_first s d l some =
    let r = drive_at s d in
    let w = first_of r.stack some in
    grind (arith, w.2, get_or-set_same s.drives d (drive_with r.name (with_first None r.stack)) (drive_with [] []) l)

any_more : {X : Type 0} (p : X → Bool) (x : X) (xs : List X) (b : Bool) → p x ≡ b → MatchBool (list_any p xs) (0 < count_by p xs) (count_by p xs ≡ 0)
    → MatchBool (list_any p (x ∷ xs)) (0 < count_by p (x ∷ xs)) (count_by p (x ∷ xs) ≡ 0)
any_more p x xs b e h = grind (arith, sum_by-cons (λ x. bit (p x)) x xs)

-- an element passes the test, or the count is 0
pub any_count : {X : Type 0} (p : X → Bool) (xs : List X) → MatchBool (list_any p xs) (0 < count_by p xs) (count_by p xs ≡ 0)
any_count p [] = refl
any_count p (x ∷ xs) = any_more p x xs (p x) refl (any_count p xs)

-- a reel of all stacks passes the test where one of some stack does
any_stacks : {X : Type 0} (p : ReelSlot X → Bool) (drives : List (Drive X)) → list_any p (flat_map (λ r. r.stack) drives) ≡ list_any (λ r. list_any p r.stack) drives
any_stacks p [] = refl
any_stacks p (r ∷ drives) = grind (arith, list_any-append p r.stack (flat_map (λ r. r.stack) drives), any_stacks p drives)

-- a name is found among all where it is found on the stacks or in the bin
any_slots : {X : Type 0} (name : List ℕ) (s : LibraryOf X) (found : Bool) → (list_any (λ r. list_any (λ x. bytes_eq name x.name) r.stack) s.drives || list_any (λ x. bytes_eq name x.name) s.bin) ≡ found
    → MatchBool found (0 < times name (names_in s)) (times name (names_in s) ≡ 0)
any_slots {X} name s found e =
    let p : ReelSlot X → Bool = λ x. bytes_eq name x.name in
    let all = list_any-append p (flat_map (λ r. r.stack) s.drives) s.bin in
    grind (arith, any_stacks p s.drives, times_named name (slots_in s), any_count p (slots_in s))

pub any_is_stacked : {X : Type 0} (name : List ℕ) (s : LibraryOf X) (found : Bool) → found ≡ list_any (λ r. list_any (λ x. bytes_eq name x.name) r.stack) s.drives → found ≡ true
    → MatchBool found (0 < times name (names_in s)) (times name (names_in s) ≡ 0)
any_is_stacked name s found e t = grind (arith, any_slots name s found)

pub any_binned : {X : Type 0} (name : List ℕ) (s : LibraryOf X) (stacked found : Bool) → stacked ≡ list_any (λ r. list_any (λ x. bytes_eq name x.name) r.stack) s.drives → stacked ≡ false
    → found ≡ list_any (λ x. bytes_eq name x.name) s.bin → MatchBool found (0 < times name (names_in s)) (times name (names_in s) ≡ 0)
any_binned name s stacked found e f b = grind (arith, any_slots name s found)

-- a drive more adds no reel
pub slots_drive : {X : Type 0} (drives : List (Drive X)) (bin : List (ReelSlot X)) (name : List ℕ) → slots_in (library (drives ++ drive_with name [] ∷ []) bin) ≡ slots_in (library drives bin)
slots_drive drives bin name =
    grind (arith, flat_map-append (λ r. r.stack) drives (drive_with name [] ∷ []), append-nil (flat_map (λ r. r.stack) drives))

-- a sum after a reel was added to the stack of the drive d
pub sum_by_added : {X : Type 0} (f : ReelSlot X → ℕ) (s : LibraryOf X) (d : ℕ) (x : ReelSlot X) → d < length s.drives
    → sum_by f (slots_in (with_drive_at s d (drive_with (drive_at s d).name ((drive_at s d).stack ++ x ∷ [])))) ≡ sum_by f (slots_in s) + f x
sum_by_added f s d x l =
    omega (arith, sum_by_with_drive f s d (drive_with (drive_at s d).name ((drive_at s d).stack ++ x ∷ [])) l, sum_by_push f (drive_at s d).stack x)
