-- The first entry of a record file's bytes, and the others.
use Rattle.tape.proofs.Words.{◌≡◌, ℕ, suc, ◌+◌, ◌-◌, ◌<◌, ◌≤◌, List, [], ◌∷◌, ◌++◌, length, take, drop, None, refl, sym, ap, ◌∙◌, append_assoc, append-nil, length-append, get_or, length-take, arith, map-append, take-append-drop, le_bytes_4, w32, from_le_bytes, slice_get, RECORD_LIMIT, PlainEntry, IsTapeEntry, Record, Mark, bytes_of, plain_of, plain_entries, length_bytes, image_of, IsTail, SpellsReel, entries_in, IsFirst, IsNth, Entry}
use Rattle.std.proofs.lemmas.Grind.{common_steps}
use Rattle.tape.proofs.Images.{record_image}
use Rattle.tape.proofs.Spelling.{image_size, spelling, spells_in, found_in, tail_spells, more_spells}

-- the first entry, a mark or a record
pub first_mark : (bytes rest : List ℕ) (n : ℕ) → bytes ≡ length_bytes n ++ rest → n ≡ 0 → IsFirst bytes [] rest
first_mark bytes rest n is none = record { entry = Mark; whole = is ∙ ap (λ m. length_bytes m ++ rest) none; bytes_is = refl; lawful = tt }

pub first_record : (x rest record_is behind : List ℕ) (n m : ℕ) → x ≡ length_bytes n ++ rest → 0 < n → n ≤ RECORD_LIMIT → record_is ≡ take n rest
    → drop n rest ≡ length_bytes m ++ behind → m ≡ n → IsFirst x record_is behind
first_record x rest record_is behind n m is some limit front again same =
    let r = record_image x rest behind n is some limit (again ∙ ap (λ k. length_bytes k ++ behind) same) in
    record { entry = Record (take n rest); whole = r.1; bytes_is = front; lawful = r.0 }

-- the entries of the bytes: the first, and those after it
pub entries_first : (file bytes behind : List ℕ) (f : IsFirst file bytes behind) → entries_in file ≡ f.entry ∷ entries_in behind
entries_first file bytes behind f =
    sym (spells_in file (f.entry ∷ entries_in behind) (more_spells file behind f.entry (entries_in behind) f.lawful f.whole (found_in behind)))

pub entries_none : (file : List ℕ) → IsTail file → entries_in file ≡ []
entries_none file is = sym (spells_in file [] (tail_spells file is))

-- the first of some bytes are bytes
take_small : (n : ℕ) (bytes : List ℕ) → ((i : ℕ) → get_or bytes i 0 < 256) → (i : ℕ) → get_or (take n bytes) i 0 < 256
take_small n bytes small i = grind (arith, common_steps, small i)

-- the length that the first 4 bytes are
pub read_length : (bytes head rest : List ℕ) (n : ℕ) → 4 ≤ length bytes → head ≡ take 4 bytes → rest ≡ drop 4 bytes → ((i : ℕ) → get_or bytes i 0 < 256)
    → n ≡ from_le_bytes w32 head → bytes ≡ length_bytes n ++ rest
unfolding length_bytes
read_length bytes head rest n long front back small is =
    let four : length head ≡ 4 = omega (arith, ap length front, length-take 4 bytes) in
    let head_is = le_bytes_4 head n four (rw front (take_small 4 bytes small)) is in
    grind (arith, take-append-drop 4 bytes)

pub shorter : (file bytes behind : List ℕ) → IsFirst file bytes behind → length behind < length file
shorter file bytes behind f = omega (arith, ap length f.whole, length-append (image_of f.entry) behind, image_size f.entry)

-- so many entries were passed
pub nth_more : (file rest bytes behind : List ℕ) (passed : ℕ) → ((k : ℕ) → slice_get (entries_in file) (passed + k) ≡ slice_get (entries_in rest) k)
    → IsFirst rest bytes behind → (k : ℕ) → slice_get (entries_in file) (passed + 1 + k) ≡ slice_get (entries_in behind) k
nth_more file rest bytes behind passed before f k =
    let one : passed + 1 + k ≡ passed + suc k = omega arith in
    grind (arith, before (suc k), entries_first rest bytes behind f)

pub nth_none : (file rest : List ℕ) (passed i : ℕ) → ((k : ℕ) → slice_get (entries_in file) (passed + k) ≡ slice_get (entries_in rest) k)
    → passed ≤ i → IsTail rest → slice_get (entries_in file) i ≡ None
nth_none file rest passed i before within tail =
    let at : passed + (i - passed) ≡ i = omega arith in
    grind (arith, before (i - passed), entries_none rest tail)

pub nth_some : (file rest bytes behind : List ℕ) (passed i : ℕ) → ((k : ℕ) → slice_get (entries_in file) (passed + k) ≡ slice_get (entries_in rest) k)
    → passed ≡ i → IsFirst rest bytes behind → IsNth file i bytes
nth_some file rest bytes behind passed i before all f =
    let at : passed + 0 ≡ i = omega arith in
    record { entry = f.entry; at = grind (arith, before 0, entries_first rest bytes behind f); bytes_is = f.bytes_is }

-- one entry more was read
pub read_more : (file rest bytes behind : List ℕ) (items : List Entry) (made : Entry) → entries_in file ≡ plain_entries items ++ entries_in rest
    → IsFirst rest bytes behind → ((e : PlainEntry) → IsTapeEntry e → bytes ≡ bytes_of e → plain_of made ≡ e)
    → entries_in file ≡ plain_entries (items ++ made ∷ []) ++ entries_in behind
read_more file rest bytes behind items made before f is =
    let shown = map-append plain_of items (made ∷ []) in
    grind (arith, entries_first rest bytes behind f, is f.entry f.lawful f.bytes_is, append_assoc {A = PlainEntry})

pub read_all : (file rest : List ℕ) (items : List Entry) → entries_in file ≡ plain_entries items ++ entries_in rest → IsTail rest
    → SpellsReel file (plain_entries items)
read_all file rest items before tail =
    (spelling file (plain_entries items)).1 (grind (arith, entries_none rest tail, append-nil (plain_entries items)))
