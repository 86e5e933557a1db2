-- The length of the entry that bytes begin with.
use Rattle.volume_check.proofs.Words.{◌≡◌, ℕ, List, [], ◌∷◌, ◌++◌, length, drop, Option, Some, None, refl, sym, ap, ◌∙◌, append_assoc, All-append}
use Rattle.volume_check.proofs.Words.{All-head, flat_map-append, PlainEntry, Tape, IsTapeEntry, tape, bytes_of, image_of, images_of, IsTail, IsFile}
use Rattle.volume_check.proofs.Words.{SpellsReel, entries_in, first_length, found_in, Tally, IsTalliedUpTo}
use Rattle.tape.specs.Scan.{IsFirst}

-- The bytes begin with an entry of this length, 0 for a mark. `None` if they begin with no entry.
abbrev pub IsNextLength : List ℕ → Option ℕ → Type 0
IsNextLength bytes None = IsTail bytes
IsNextLength bytes (Some n) = (written : List ℕ) × (rest : List ℕ) × IsFirst bytes written rest × (n ≡ length written)

-- the length of the first entry that bytes spell is the next length
first_next : (bytes : List ℕ) (entries : List PlainEntry) (found : Option ℕ) → SpellsReel bytes entries → found ≡ first_length entries
    → IsNextLength bytes found
first_next bytes [] found s is = rw (is, s.whole) s.is_tail
first_next bytes (e ∷ es) found s is =
    let whole = s.whole ∙ append_assoc (image_of e) (images_of es) s.tail in
    let first : IsFirst bytes (bytes_of e) (images_of es ++ s.tail)
    = record { entry = e; whole = whole; bytes_is = refl; lawful = All-head IsTapeEntry e es s.lawful } in
    rw is (bytes_of e, images_of es ++ s.tail, first, refl)

-- the entries that were added and those after them are a tape whose place is there, so that a length
-- that is found for each tape is the next one
pub next_told : (x : List ℕ) (at : ℕ) (t : Tally) (found : Option ℕ) → IsTalliedUpTo x at t
    → ((u : Tape) → IsFile x at u → found ≡ first_length u.after) → IsNextLength (drop at x) found
next_told x at t found told next =
    let after = entries_in (drop at x) in let s = found_in (drop at x) in
    let whole : x ≡ images_of (told.done ++ after) ++ s.tail
    = told.whole ∙ ap (λ l. images_of told.done ++ l) s.whole ∙ rw (flat_map-append image_of told.done after)
    (sym (append_assoc (images_of told.done) (images_of after) s.tail)) in
    first_next (drop at x) after found s (next (tape told.done after) (record {
      spelled = record { tail = s.tail; whole = whole; is_tail = s.is_tail; lawful = All-append IsTapeEntry told.done after told.lawful s.lawful };
      offset_is = told.place;
    }))
