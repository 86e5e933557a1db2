-- What a world tells, as the lines of its report say it.
use Rattle.rsim_schedule.proofs.Words.{◌≡◌, ◌≢◌, ◌+◌, ◌<◌, ℕ, zero, suc, List, [], ◌∷◌, ◌++◌, Option, Some, None, refl, sym, ap, ◌∙◌, length, map, take, get_or, arith, append_assoc, append-nil, slice_index_or, slice_get, unwrap_or, flat_map, take_more, take_all, flat_map_more, map-append, map-map, KeptReel, ReelSlot, Drive, drive_with, TapeLibrary, names_of, rest_slot, Count, IsStackOf, stack_of, entry_text, length_text, names_text}
use Rattle.std.specs.Option.{option_and_then}
use Rattle.std.proofs.lemmas.Option.{slice_get_within, slice_get_cases, get_or_from_slice_get, same_Some}
use Rattle.std.proofs.lemmas.Slice.Eq.{bytes_eq-Decides}
use Rattle.tape.specs.Tape.{PlainEntry}
use Rattle.tape.specs.List.{bytes_of, entry_length}
use Rattle.tape.specs.Trouble.{TroubledTape}

-- no drive has the name
stack_none : (drives : List (Drive KeptReel)) (name : List ℕ)
    → ((k : ℕ) → k < length drives → (slice_index_or drives k (drive_with [] [])).name ≢ name) → stack_of drives name ≡ []
stack_none [] name none = refl
stack_none (r ∷ drives) name none =
    grind (arith, bytes_eq-Decides name r.name, none 0 (omega arith), stack_none drives name (λ k below. none (suc k) (omega (arith, below))))

-- the first drive of the name
stack_found : (drives : List (Drive KeptReel)) (name : List ℕ) (d : ℕ) → d < length drives → (slice_index_or drives d (drive_with [] [])).name ≡ name
    → ((k : ℕ) → k < d → (slice_index_or drives k (drive_with [] [])).name ≢ name) → stack_of drives name ≡ (slice_index_or drives d (drive_with [] [])).stack
stack_found [] name d inside is first = absurd (omega (arith, inside))
stack_found (r ∷ drives) name zero inside is first = grind (arith, bytes_eq-Decides name r.name)
stack_found (r ∷ drives) name (suc d) inside is first =
    let rest = stack_found drives name d (omega (arith, inside)) is (λ k below. first (suc k) (omega (arith, below))) in
    grind (arith, bytes_eq-Decides name r.name, first 0 (omega arith), rest)

-- the names of a stack, as they are told
told_names : (name : List ℕ) (s : TapeLibrary) (told : Option (List (ReelSlot KeptReel))) (slots : List (ReelSlot TroubledTape)) → IsStackOf name s told
    → map rest_slot slots ≡ unwrap_or told [] → names_of slots ≡ names_of (stack_of s.drives name)
told_names name s None slots none e =
    sym (map-map (λ (x : ReelSlot KeptReel). x.name) rest_slot slots) ∙ ap (λ l. names_of l) (e ∙ sym (stack_none s.drives name none))
told_names name s (Some reels) slots (d, (inside, is, first), same) e =
    sym (map-map (λ (x : ReelSlot KeptReel). x.name) rest_slot slots) ∙ ap (λ l. names_of l) (e ∙ same ∙ sym (stack_found s.drives name d inside is first))

-- one element more, after what was said of those before it
pub told_more : {X : Type 0} (f : X → List ℕ) (before now : List ℕ) (xs : List X) (i : ℕ) (x : X) → slice_get xs i ≡ Some x
    → now ≡ before ++ flat_map f (take i xs) → now ++ f x ≡ before ++ flat_map f (take (i + 1) xs)
told_more f before now xs i x got e =
    rw (e, take_more xs i x (slice_get_within xs i x got), get_or_from_slice_get xs i x x got) (flat_map_more f before (take i xs) x)

-- one entry more of a reel
pub entry_more : (o : Option (List PlainEntry)) (x : Option PlainEntry) (before now : List ℕ) (i n : ℕ) → option_and_then (λ entries. slice_get entries i) o ≡ x
    → Some n ≡ entry_length x → now ≡ before ++ flat_map entry_text (take i (unwrap_or o []))
    → now ++ length_text n ≡ before ++ flat_map entry_text (take (i + 1) (unwrap_or o []))
entry_more None None before now i n got told e = cc
entry_more (Some entries) (Some x) before now i n got told e =
    ap (λ m. now ++ length_text m) (same_Some n (length (bytes_of x)) told) ∙ told_more entry_text before now entries i x got e
entry_more o x before now i n got told e = cc

-- one line more, of what is shown of an element
pub shown_more : {X Y : Type 0} (f : Y → List ℕ) (show : X → Y) (before now : List ℕ) (xs : List X) (i : ℕ) (x : X) → i < length xs → x ≡ get_or xs i x
    → now ≡ before ++ flat_map f (map show (take i xs)) → now ++ f (show x) ≡ before ++ flat_map f (map show (take (i + 1) xs))
shown_more f show before now xs i x within is e =
    rw (e, take_more xs i x within, ← is, map-append show (take i xs) (x ∷ [])) (flat_map_more f before (map show (take i xs)) (show x))

-- no entry is left of a reel
pub entries_over : (o : Option (List PlainEntry)) (i : ℕ) → None ≡ entry_length (option_and_then (λ entries. slice_get entries i) o)
    → take i (unwrap_or o []) ≡ unwrap_or o []
entries_over None i told = take_all i [] (omega arith)
entries_over (Some entries) i told = grind (arith, slice_get_cases entries i, take_all i entries)

-- there is a volume in each place
pub count_there : (counts : List Count) (i : ℕ) → i < length counts → ¬ (None ≡ slice_get counts i)
count_there counts i within none = grind (arith, slice_get_cases counts i)

-- the line of a drive, after what was said before
pub stack_said : (device : List ℕ) (s : TapeLibrary) (told : Option (List (ReelSlot KeptReel))) (slots : List (ReelSlot TroubledTape)) (keyword end text one two : List ℕ)
    → IsStackOf device s told → map rest_slot slots ≡ unwrap_or told [] → one ≡ text ++ keyword → two ≡ one ++ device
    → two ++ [] ++ names_text (names_of slots) ++ end ≡ text ++ (keyword ++ device ++ names_text (names_of (stack_of s.drives device)) ++ end)
stack_said device s told slots keyword end text one two tells e e1 e2 =
    rw (e2, e1, told_names device s told slots tells e) (simp (append_assoc, append-nil))

-- the parts of a report, one after the other
pub joined : (reels stacks keyword names end counts title dates t0 t1 t2 t3 t4 t5 : List ℕ) → t0 ≡ [] → t1 ≡ t0 ++ reels → t2 ≡ t1 ++ stacks
    → t3 ≡ t2 ++ keyword ++ names ++ end → t4 ≡ t3 ++ counts → t5 ≡ t4 ++ title ++ dates
    → t5 ≡ reels ++ stacks ++ (keyword ++ names ++ end) ++ counts ++ title ++ dates
joined reels stacks keyword names end counts title dates t0 t1 t2 t3 t4 t5 h0 h1 h2 h3 h4 h5 = rw (h5, h4, h3, h2, h1, h0) (simp append_assoc)
