-- Lengths and images in a file.
use Rattle.tape.proofs.Words.{◌≡◌, ◌≢◌, ℕ, ◌+◌, ◌<◌, ◌≤◌, ◌^◌, List, [], ◌∷◌, ◌++◌, length, take, drop, Option, Some, None, sym, ap, subst, ◌∙◌, append_assoc, length-append, length-drop, length-take, take-append-drop, drop-drop, arith, drop_at, take_all, RECORD_LIMIT, PlainEntry, Tape, IsTapeEntry, IsRecord, Record, Mark, IsReadAt, length_bytes, image_of, IsTail, IsFile, BeginsWith, first_length, entries_in}
use Rattle.tape.proofs.Spelling.{length_length_bytes, length_there, rest_is, length_of, length_bound, body_of, image_parts, tail_spells, more_spells, found_in, spells_one}
use Rattle.tape.proofs.Places.{parted}

-- ---- lengths

-- four bytes that were read are the length that stands there
pub read_length : (at n m : ℕ) (given x : List ℕ) → length given ≡ 4 → 4 ≤ n → length_bytes m ≡ given → m < 2 ^ 32 → IsReadAt at given n x → BeginsWith (drop at x) (Some m)
read_length at n m given x four enough is fits read =
    let all : take n given ≡ given = take_all n given (omega arith) in
    (fits, (drop n (drop at x), grind (arith, read.1, take-append-drop n (drop at x))))

-- where a length stands, it is what the bytes begin with
pub begins_one : (bytes rest : List ℕ) (n : ℕ) (o : Option ℕ) → n < 2 ^ 32 → bytes ≡ length_bytes n ++ rest → BeginsWith bytes o → o ≡ Some n
begins_one bytes rest n None fits is short = absurd (omega (arith, ap length is, length-append (length_bytes n) rest, length_length_bytes n))
begins_one bytes rest n (Some m) fits is begins =
    ap Some (sym (length_there bytes begins.1.0 m begins.0 begins.1.1) ∙ length_there bytes rest n fits is)

-- ---- the entry after a place

-- where the image of an entry stands at the place, that is the first entry ahead
pub file_first : (bytes : List ℕ) (at : ℕ) (t : Tape) (e : PlainEntry) (rest : List ℕ) → IsFile bytes at t → IsTapeEntry e → drop at bytes ≡ image_of e ++ rest
    → Some (length_of e) ≡ first_length t.after
file_first bytes at t e rest f lawful there =
    ap first_length (spells_one RECORD_LIMIT (drop at bytes) (e ∷ entries_in rest) t.after (omega arith)
    (more_spells (drop at bytes) rest e (entries_in rest) lawful there (found_in rest)) (parted f).back)

-- and where none stands, there is none ahead
pub file_none : (bytes : List ℕ) (at : ℕ) (t : Tape) → IsFile bytes at t → IsTail (drop at bytes) → None ≡ first_length t.after
file_none bytes at t f is_tail =
    ap first_length (spells_one RECORD_LIMIT (drop at bytes) [] t.after (omega arith) (tail_spells (drop at bytes) is_tail)
    (parted f).back)

pub mark_there : (bytes : List ℕ) (at : ℕ) (t : Tape) (n : ℕ) → IsFile bytes at t → n ≡ 0 → BeginsWith (drop at bytes) (Some n) → Some 0 ≡ first_length t.after
mark_there bytes at t n f zero_is begins =
    file_first bytes at t Mark begins.1.0 f tt (begins.1.1 ∙ ap (λ k. length_bytes k ++ begins.1.0) zero_is)

-- bytes that begin with a length above the limit are a tail
pub long_tail : (x : List ℕ) (n : ℕ) → RECORD_LIMIT < n → BeginsWith x (Some n) → IsTail x
long_tail x n long begins e rest lawful is =
    let bound = length_bound RECORD_LIMIT e lawful in
    let there = length_there x begins.1.0 n begins.0 begins.1.1 in
    let other = length_there x (body_of e ++ rest) (length_of e) (omega arith) (is ∙ image_parts e rest) in
    absurd (omega arith)

-- and so are those with a length that does not stand again after so many bytes
pub torn_tail : (x rest : List ℕ) (n : ℕ) (behind : Option ℕ) → n < 2 ^ 32 → x ≡ length_bytes n ++ rest → 0 < n → BeginsWith (drop n rest) behind
    → behind ≢ Some n → IsTail x
torn_tail x rest n behind small is some ends not Mark more lawful whole =
    absurd (omega (arith, length_there x rest n small is, length_there x more 0 (omega arith) whole))
torn_tail x rest n behind small is some ends not (Record bytes) more lawful whole =
    let bound = lawful.1 in
    let parts = whole ∙ image_parts (Record bytes) more in
    let size : length bytes ≡ n = sym (length_there x (body_of (Record bytes) ++ more) (length bytes) (omega arith) parts) ∙ length_there x rest n small is in
    let behind_is = drop_at bytes (length_bytes (length bytes) ++ more) n size in
    let stands : drop n rest ≡ length_bytes n ++ more
    = grind (arith, rest_is x rest n is, rest_is x (body_of (Record bytes) ++ more) (length bytes) parts, append_assoc {A = ℕ}) in
    absurd (not (begins_one (drop n rest) more n behind small stands ends))

-- a length, so many bytes and the length again are the image of a record
pub record_image : (x rest behind : List ℕ) (n : ℕ) → x ≡ length_bytes n ++ rest → 0 < n → n ≤ RECORD_LIMIT → drop n rest ≡ length_bytes n ++ behind
    → IsRecord (take n rest) × (x ≡ image_of (Record (take n rest)) ++ behind) × (length (take n rest) ≡ n)
record_image x rest behind n is some small again =
    let long : n ≤ length rest = omega (arith, ap length again, length-drop n rest, length-append (length_bytes n) behind, length_length_bytes n) in
    let size : length (take n rest) ≡ n = omega (arith, length-take n rest) in
    ((omega arith, omega arith), grind (arith, append_assoc {A = ℕ}, take-append-drop n rest), size)

-- the bytes behind a length at a place, and so many further
behind_is : (bytes rest : List ℕ) (at n to : ℕ) → to ≡ at + 4 + n → drop at bytes ≡ length_bytes n ++ rest → drop n rest ≡ drop to bytes
behind_is bytes rest at n to to_is is =
    let one : to ≡ at + (4 + n) = omega arith in
    ap (drop n) (sym (rest_is (drop at bytes) rest n is)) ∙ drop-drop n 4 (drop at bytes) ∙ drop-drop (4 + n) at bytes
    ∙ ap (λ k. drop k bytes) (sym one)

-- a tail at a place, because the length that stands there does not stand again
pub torn_there : (bytes : List ℕ) (at n to : ℕ) (behind : Option ℕ) → 0 < n → to ≡ at + 4 + n → BeginsWith (drop at bytes) (Some n)
    → BeginsWith (drop to bytes) behind → behind ≢ Some n → IsTail (drop at bytes)
torn_there bytes at n to behind some to_is (small, (rest, is)) ends not =
    torn_tail (drop at bytes) rest n behind small is some (subst (λ l. BeginsWith l behind) (sym (behind_is bytes rest at n to to_is is)) ends) not

-- where a length, so many bytes and the length again stand at the place, that record is the first entry ahead
pub record_there : (bytes : List ℕ) (at n to : ℕ) (t : Tape) → IsFile bytes at t → 0 < n → n ≤ RECORD_LIMIT → to ≡ at + 4 + n → BeginsWith (drop at bytes) (Some n)
    → BeginsWith (drop to bytes) (Some n) → Some n ≡ first_length t.after
record_there bytes at n to t f some small to_is (_, (rest, is)) (_, (behind, again)) =
    let r = record_image (drop at bytes) rest behind n is some small (behind_is bytes rest at n to to_is is ∙ again) in
    ap Some (sym r.2) ∙ file_first bytes at t (Record (take n rest)) behind f r.0 r.1
