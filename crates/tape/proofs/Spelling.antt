-- Each list of bytes spells one list of entries.
use Rattle.tape.proofs.Words.{◌≡◌, ◌↔◌, ℕ, zero, suc, ◌<◌, ◌≤◌, ◌^◌, true, ◌==◌, if◌then◌else◌, nat_eq, List, [], ◌∷◌, ◌++◌, length, take, drop, Option, Some, None, refl, sym, ap, subst, ◌∙◌, append_assoc, length-append, length-drop, length-take, arith, le-leb, nat_tests, Decides-eqb, take_at, drop_at, append_cancel_left, All-nil, All-cons, All-head, All-tail, from_le_bytes-to_le_bytes_4, starts_is, w32, from_le_bytes, All, starts_with, PlainEntry, IsEntryUpTo, IsTapeEntry, RECORD_LIMIT, Record, Mark, bytes_of, length_bytes, image_of, images_of, IsTail, IsTailUpTo, SpellsReel, SpellsReelUpTo, first_in, entries_within, entries_in}

pub length_length_bytes : (n : ℕ) → length (length_bytes n) ≡ 4
unfolding length_bytes
length_length_bytes n = refl

-- the length that stands at the beginning
pub length_there : (bytes rest : List ℕ) (n : ℕ) → n < 2 ^ 32 → bytes ≡ length_bytes n ++ rest → from_le_bytes w32 (take 4 bytes) ≡ n
unfolding length_bytes
length_there bytes rest n fits is =
    ap (λ l. from_le_bytes w32 (take 4 l)) is ∙ ap (from_le_bytes w32) (take_at (length_bytes n) rest 4 refl) ∙ from_le_bytes-to_le_bytes_4 n fits

-- and what follows it
pub rest_is : (bytes rest : List ℕ) (n : ℕ) → bytes ≡ length_bytes n ++ rest → drop 4 bytes ≡ rest
rest_is bytes rest n is = ap (drop 4) is ∙ drop_at (length_bytes n) rest 4 (length_length_bytes n)

-- the length that an image begins with, and what follows it
abbrev pub length_of : PlainEntry → ℕ
length_of e = length (bytes_of e)

abbrev pub body_of : PlainEntry → List ℕ
body_of (Record bytes) = bytes ++ length_bytes (length bytes)
body_of Mark = []

pub length_bound : (most : ℕ) (e : PlainEntry) → IsEntryUpTo most e → length_of e ≤ most
length_bound most e lawful = grind arith

pub image_parts : (e : PlainEntry) (rest : List ℕ) → image_of e ++ rest ≡ length_bytes (length_of e) ++ (body_of e ++ rest)
image_parts e rest = grind (arith, append_assoc {A = ℕ})

pub image_size : (e : PlainEntry) → 4 ≤ length (image_of e)
image_size e = grind (arith, length-append {A = ℕ}, length_length_bytes)

-- the entry that begins with this length: a mark where it is 0, or else a record of as many bytes after it
abbrev told : ℕ → List ℕ → PlainEntry
told n bytes = if n == 0 then Mark else Record (take n (drop 4 bytes))

told_image : (most : ℕ) (e : PlainEntry) (rest : List ℕ) → IsEntryUpTo most e → told (length_of e) (image_of e ++ rest) ≡ e
told_image most (Record bytes) rest lawful =
    let behind = rest_is (image_of (Record bytes) ++ rest) (body_of (Record bytes) ++ rest) (length bytes) (image_parts (Record bytes) rest) in
    let front = take_at bytes (length_bytes (length bytes) ++ rest) (length bytes) refl in
    grind (arith, nat_tests, lawful.0, append_assoc {A = ℕ})
told_image most Mark rest lawful = refl

-- bytes begin with one image at most
pub one_image : (l m : ℕ) (d e : PlainEntry) (rest more : List ℕ) → l < 2 ^ 32 → m < 2 ^ 32 → IsEntryUpTo l d → IsEntryUpTo m e
    → image_of d ++ rest ≡ image_of e ++ more → d ≡ e
one_image l m d e rest more small few lawful good is =
    let first = length_bound l d lawful in
    let second = length_bound m e good in
    let one = length_there (image_of d ++ rest) (body_of d ++ rest) (length_of d) (omega arith) (image_parts d rest) in
    let other = length_there (image_of d ++ rest) (body_of e ++ more) (length_of e) (omega arith) (is ∙ image_parts e more) in
    cc (told_image l d rest lawful, told_image m e more good)

one_list : (limit : ℕ) (xs ys : List PlainEntry) (s t : List ℕ) → limit < 2 ^ 32 → All (IsEntryUpTo limit) xs → All (IsEntryUpTo limit) ys
    → IsTailUpTo limit s → IsTailUpTo limit t → images_of xs ++ s ≡ images_of ys ++ t → xs ≡ ys
one_list limit [] [] s t small a b x y is = refl
one_list limit [] (e ∷ es) s t small a b x y is =
    absurd (x e (images_of es ++ t) (All-head (IsEntryUpTo limit) e es b) (is ∙ append_assoc (image_of e) (images_of es) t))
one_list limit (d ∷ ds) [] s t small a b x y is =
    absurd (y d (images_of ds ++ s) (All-head (IsEntryUpTo limit) d ds a) (sym is ∙ append_assoc (image_of d) (images_of ds) s))
one_list limit (d ∷ ds) (e ∷ es) s t small a b x y is =
    let whole : image_of d ++ (images_of ds ++ s) ≡ image_of e ++ (images_of es ++ t)
    = sym (append_assoc (image_of d) (images_of ds) s) ∙ is ∙ append_assoc (image_of e) (images_of es) t in
    let one = one_image limit limit d e (images_of ds ++ s) (images_of es ++ t) small small (All-head (IsEntryUpTo limit) d ds a) (All-head (IsEntryUpTo limit) e es b) whole in
    let rest = append_cancel_left (image_of d) (images_of ds ++ s) (images_of es ++ t)
    (whole ∙ ap (λ z. image_of z ++ (images_of es ++ t)) (sym one)) in
    let others = one_list limit ds es s t small (All-tail (IsEntryUpTo limit) d ds a) (All-tail (IsEntryUpTo limit) e es b) x y rest in cc

-- bytes spell one list of entries at most
pub spells_one : (limit : ℕ) (bytes : List ℕ) (xs ys : List PlainEntry) → limit < 2 ^ 32 → SpellsReelUpTo limit bytes xs
    → SpellsReelUpTo limit bytes ys → xs ≡ ys
spells_one limit bytes xs ys small a b = one_list limit xs ys a.tail b.tail small a.lawful b.lawful a.is_tail b.is_tail (sym a.whole ∙ b.whole)

-- `starts_with` tests whether the bytes begin with an image
begins : (bytes image : List ℕ) → (starts_with nat_eq bytes image ≡ true → bytes ≡ image ++ drop (length image) bytes)
    × ((rest : List ℕ) → bytes ≡ image ++ rest → starts_with nat_eq bytes image ≡ true)
begins bytes image = starts_is Decides-eqb bytes image (starts_with nat_eq bytes image) refl

-- where the image of an entry stands, that is the first entry
first_image : (e : PlainEntry) (rest : List ℕ) → IsTapeEntry e → first_in (image_of e ++ rest) ≡ Some e
unfolding first_in
first_image e rest lawful =
    let bound = length_bound RECORD_LIMIT e lawful in
    let n = length_there (image_of e ++ rest) (body_of e ++ rest) (length_of e) (omega arith) (image_parts e rest) in
    let small = le-leb (length_of e) RECORD_LIMIT bound in
    rw (n, told_image RECORD_LIMIT e rest lawful, small, (begins (image_of e ++ rest) (image_of e)).1 rest refl) refl

-- the entry of a length is lawful where its image stands
lawful_told : (n : ℕ) (bytes rest : List ℕ) → n ≤ RECORD_LIMIT → from_le_bytes w32 (take 4 bytes) ≡ n → bytes ≡ image_of (told n bytes) ++ rest
    → IsTapeEntry (told n bytes)
lawful_told n bytes rest small first is =
    let e = told n bytes in
    let bound : length_of e ≤ n = grind (arith, nat_tests, length-take n (drop 4 bytes)) in
    let same = length_there bytes (body_of e ++ rest) (length_of e) (omega arith) (is ∙ image_parts e rest) in
    grind (arith, nat_tests)

-- the first entry is lawful, and its image stands
first_some : (bytes : List ℕ) (e : PlainEntry) → first_in bytes ≡ Some e → IsTapeEntry e × (bytes ≡ image_of e ++ drop (length (image_of e)) bytes)
unfolding first_in
first_some bytes e is =
    let n = from_le_bytes w32 (take 4 bytes) in
    let entry = told n bytes in
    let rest = drop (length (image_of entry)) bytes in
    let lawful = λ (few : n ≤ RECORD_LIMIT) (there : bytes ≡ image_of entry ++ rest). lawful_told n bytes rest few refl there in
    grind (arith, nat_tests, begins bytes (image_of entry), lawful)

-- fewer bytes than a length takes are a tail
pub tail_short : (bytes : List ℕ) → length bytes < 4 → IsTail bytes
tail_short bytes short e rest lawful is =
    absurd (omega (arith, ap length is, length-append (image_of e) rest, image_size e))

pub tail_spells : (bytes : List ℕ) → IsTail bytes → SpellsReel bytes []
tail_spells bytes is = record { tail = bytes; whole = refl; is_tail = is; lawful = All-nil IsTapeEntry }

-- one entry more
pub more_spells : (bytes rest : List ℕ) (e : PlainEntry) (entries : List PlainEntry) → IsTapeEntry e → bytes ≡ image_of e ++ rest → SpellsReel rest entries
    → SpellsReel bytes (e ∷ entries)
more_spells bytes rest e entries lawful is s = record {
  tail = s.tail;
  whole = is ∙ ap (λ l. image_of e ++ l) s.whole ∙ sym (append_assoc (image_of e) (images_of entries) s.tail);
  is_tail = s.is_tail;
  lawful = All-cons IsTapeEntry e entries lawful s.lawful;
}

found_by : (most : ℕ) (bytes : List ℕ) (o : Option PlainEntry) → length bytes ≤ suc most → first_in bytes ≡ o
    → ((rest : List ℕ) → length rest ≤ most → SpellsReel rest (entries_within most rest)) → SpellsReel bytes (entries_within (suc most) bytes)
unfolding entries_within
found_by most bytes None fits is more = rw (is, entries_within) (tail_spells bytes (λ e rest lawful whole. cc (first_image e rest lawful)))
found_by most bytes (Some e) fits is more =
    let s = first_some bytes e is in
    let rest = drop (length (image_of e)) bytes in
    rw (is, entries_within)
    (more_spells bytes rest e (entries_within most rest) s.0 s.1 (more rest (omega (arith, length-drop (length (image_of e)) bytes, image_size e))))

found_within : (most : ℕ) (bytes : List ℕ) → length bytes ≤ most → SpellsReel bytes (entries_within most bytes)
unfolding entries_within
found_within zero bytes fits = tail_spells bytes (tail_short bytes (omega arith))
found_within (suc most) bytes fits = found_by most bytes (first_in bytes) fits refl (found_within most)

-- the entries that are found are spelled
pub found_in : (bytes : List ℕ) → SpellsReel bytes (entries_in bytes)
found_in bytes = found_within (length bytes) bytes (omega arith)

-- and those that are spelled are found
pub spells_in : (bytes : List ℕ) (entries : List PlainEntry) → SpellsReel bytes entries → entries ≡ entries_in bytes
spells_in bytes entries s = spells_one RECORD_LIMIT bytes entries (entries_in bytes) (omega arith) s (found_in bytes)

pub spelling : (bytes : List ℕ) (entries : List PlainEntry) → SpellsReel bytes entries ↔ (entries ≡ entries_in bytes)
spelling bytes entries = (spells_in bytes entries, λ is. subst (SpellsReel bytes) (sym is) (found_in bytes))
