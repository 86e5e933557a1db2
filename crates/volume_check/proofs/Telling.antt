-- The entries of a record file are added to a tally, one after the other.
use Rattle.volume_check.proofs.Words.{◌≡◌, ◌≢◌, ℕ, ◌+◌, ◌<◌, ◌≤◌, ◌^◌, List, [], ◌∷◌, ◌++◌, length, drop, Some, refl, sym, ap, subst, ◌∙◌, append_assoc}
use Rattle.volume_check.proofs.Words.{append-nil, length-append, drop-drop, arith, drop_at, All-append, All-nil, All-cons, flat_map-append, PlainEntry}
use Rattle.volume_check.proofs.Words.{IsTapeEntry, Record, Mark, bytes_of, length_bytes, image_of, images_of, IsTail, SpellsReel, size_by_length}
use Rattle.volume_check.proofs.Words.{length_length_bytes, image_parts, image_size, spells_in, Tally, IsTally, AddsEntry, AddsRecord, IsTalliedUpTo}
use Rattle.volume_check.proofs.Words.{IsTallyOfFile}
use Rattle.std.proofs.lemmas.Bool.Decides.{nat_tests}
use Rattle.volume_check.proofs.NextLength.{IsNextLength}

-- a record's bytes follow its first length
record_told : (bytes written rest : List ℕ) (n : ℕ) (e : PlainEntry) (old new : Tally) → n ≢ 0 → bytes ≡ image_of e ++ rest → written ≡ bytes_of e
    → n ≡ length written
    → AddsRecord (drop 4 bytes) n old new → (done : List PlainEntry) → length done + 1 < 2 ^ 64 → IsTally old done → IsTally new (done ++ e ∷ [])
record_told bytes written rest n Mark old new some whole is long tells = absurd (some (long ∙ ap length is))
record_told bytes written rest n (Record b) old new some whole is long tells =
    let head = length_bytes (length b) in
    tells b (head ++ rest) (ap (drop 4) (whole ∙ image_parts (Record b) rest) ∙ drop_at head ((b ++ head) ++ rest) 4 (length_length_bytes (length b))
    ∙ append_assoc b head rest)
    (long ∙ ap length is)

pub tells_entry : (x : List ℕ) (at n : ℕ) (old new : Tally) → n ≢ 0 → AddsRecord (drop (at + 4) x) n old new → AddsEntry (drop at x) n old new
tells_entry x at n old new some tells written rest f long =
    record_told (drop at x) written rest n f.entry old new some f.whole f.bytes_is long (rw (drop-drop 4 at x) tells)

-- the room of an entry by its length
size_is : (e : PlainEntry) (written : List ℕ) (n : ℕ) → IsTapeEntry e → written ≡ bytes_of e → n ≡ length written
    → length (image_of e) ≡ size_by_length n
size_is Mark written n lawful is long = grind (arith, nat_tests, length_length_bytes 0)
size_is (Record b) written n lawful is long = let head = length_bytes (length b) in
    grind (arith, nat_tests, length-append head (b ++ head), length-append b head, length_length_bytes (length b))

-- an entry takes a byte at least
images_long : (entries : List PlainEntry) → length entries ≤ length (images_of entries)
images_long [] = omega arith
images_long (e ∷ es) = omega (arith, images_long es, length-append (image_of e) (images_of es), image_size e)

-- one more entry was added
pub more_told : (x : List ℕ) (at to n : ℕ) (old new : Tally) → at < 2 ^ 63 → to ≡ at + size_by_length n → IsTalliedUpTo x at old
    → IsNextLength (drop at x) (Some n) → AddsEntry (drop at x) n old new → IsTalliedUpTo x to new
more_told x at to n old new low to_is told (written, rest, f, long) tells =
    let e = f.entry in let size = size_is e written n f.lawful f.bytes_is long in
    let images : images_of (told.done ++ e ∷ []) ≡ images_of told.done ++ image_of e = rw
    (flat_map-append image_of told.done (e ∷ []), append-nil (image_of e)) refl in
    let behind : drop to x ≡ rest = rw (to_is, sym (drop-drop (size_by_length n) at x), f.whole)
    (drop_at (image_of e) rest (size_by_length n) size) in
    record {
      done = told.done ++ e ∷ [];
      whole = told.whole ∙ rw (f.whole, behind, images) (sym (append_assoc (images_of told.done) (image_of e) rest));
      place = omega (arith, to_is, told.place, ap length images, length-append (images_of told.done) (image_of e), size);
      lawful = All-append IsTapeEntry told.done (e ∷ []) told.lawful (All-cons IsTapeEntry e [] f.lawful (All-nil IsTapeEntry));
      tally = tells written rest f long told.done (omega (arith, images_long told.done, told.place)) told.tally;
    }

-- if no entry is left, all were added
pub all_told : (x : List ℕ) (at : ℕ) (t : Tally) → IsTalliedUpTo x at t → IsTail (drop at x) → IsTallyOfFile x at t
all_told x at t told tail entries spelled =
    let found : SpellsReel x told.done = record { tail = drop at x; whole = told.whole; is_tail = tail; lawful = told.lawful } in
    subst (λ es. (at ≡ length (images_of es)) × IsTally t es) (spells_in x told.done found ∙ sym (spells_in x entries spelled))
    (told.place, told.tally)
