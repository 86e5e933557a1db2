-- The entry before a place.
use Rattle.tape.proofs.Words.{◌≡◌, ℕ, ◌+◌, ◌-◌, ◌<◌, ◌≤◌, List, [], ◌∷◌, ◌++◌, length, reverse, drop, take-append-drop, Option, Some, None, refl, sym, ap, ◌∙◌, append_assoc, append-nil, length-append, arith, drop_at, reverse-append, reverse-reverse, All-head, flat_map-append, RECORD_LIMIT, PlainEntry, Tape, IsTapeEntry, size_of, Record, Mark, length_bytes, image_of, images_of, IsFile, BeginsWith, size_by_length, first_length}
use Rattle.tape.proofs.Spelling.{length_length_bytes, length_of, length_bound, image_size}
use Rattle.tape.proofs.Places.{parted, All_back}
use Rattle.tape.proofs.Images.{begins_one}
use Rattle.tape.proofs.Writing.{image_length}
use Rattle.tape.proofs.Passing.{size_is}

pub nothing_ahead : (way : List PlainEntry) → None ≡ first_length way → way ≡ []
nothing_ahead [] is = refl
nothing_ahead (e ∷ es) is = cc

image_end : (e : PlainEntry) → (body : List ℕ) × (image_of e ≡ body ++ length_bytes (length_of e))
image_end (Record bytes) = (length_bytes (length bytes) ++ bytes, sym (append_assoc (length_bytes (length bytes)) bytes (length_bytes (length bytes))))
image_end Mark = ([], refl)

-- The entry before a place is lawful, its image fits between the beginning and the place, and the 4 bytes before the place are its length.
last_of : (x : List ℕ) (at : ℕ) (t : Tape) (e : PlainEntry) (es : List PlainEntry) → IsFile x at t → e ∷ es ≡ reverse t.before
    → IsTapeEntry e × (size_of e ≤ at) × ((more : List ℕ) × (drop (at - 4) x ≡ length_bytes (length_of e) ++ more))
last_of x at t e es f is =
    let p = parted f in
    let o = f.offset_is in
    let before : t.before ≡ reverse es ++ e ∷ [] = sym (reverse-reverse t.before) ∙ ap reverse (sym is) ∙ reverse-append (e ∷ []) es in
    let end = image_end e in
    let size = length_length_bytes (length_of e) in
    let front = images_of (reverse es) ++ end.0 in
    let spelled : images_of t.before ≡ front ++ length_bytes (length_of e)
    = grind (arith, before, flat_map-append image_of (reverse es) (e ∷ []), append-nil (image_of e), end.1, append_assoc {A = ℕ}) in
    let whole : x ≡ front ++ (length_bytes (length_of e) ++ drop at x)
    = sym (take-append-drop at x) ∙ ap (λ l. l ++ drop at x) (p.front ∙ spelled) ∙ append_assoc front (length_bytes (length_of e)) (drop at x) in
    let long : at ≡ length front + 4 = omega (arith, ap length spelled, length-append front (length_bytes (length_of e)), size, o) in (
      All-head IsTapeEntry e [] (All_back IsTapeEntry (reverse es) (e ∷ []) (rw before at p.lawful)),
      omega (arith, length-append (images_of (reverse es)) end.0, ap length end.1, length-append end.0 (length_bytes (length_of e)), image_length e),
      (drop at x, ap (drop (at - 4)) whole ∙ drop_at front (length_bytes (length_of e) ++ drop at x) (at - 4) (omega arith)),
    )

-- at the beginning nothing is before the place
pub start_none : (x : List ℕ) (at : ℕ) (t : Tape) (back : List PlainEntry) → back ≡ reverse t.before → IsFile x at t → at < 4
    → None ≡ first_length back
start_none x at t [] is f short = refl
start_none x at t (e ∷ es) is f short = absurd (omega (arith, last_of x at t e es f is, image_length e, image_size e))

-- The length that is found before a place is that of the entry before it. It is within the limit, and the entry fits before the place.
pub last_is : (x : List ℕ) (at : ℕ) (t : Tape) (back : List PlainEntry) (o : Option ℕ) → back ≡ reverse t.before → IsFile x at t → 4 ≤ at
    → BeginsWith (drop (at - 4) x) o → (n : ℕ) × (o ≡ Some n) × (first_length back ≡ Some n) × (n ≤ RECORD_LIMIT) × (size_by_length n ≤ at)
last_is x at t [] o is f some begins =
    let none : t.before ≡ [] = sym (reverse-reverse t.before) ∙ ap reverse (sym is) in
    absurd (omega (arith, f.offset_is, ap (λ l. length (images_of l)) none))
last_is x at t (e ∷ es) o is f some begins =
    let l = last_of x at t e es f is in
    let bound = length_bound RECORD_LIMIT e l.0 in
    let one = begins_one (drop (at - 4) x) l.2.0 (length_of e) o (omega arith) l.2.1 begins in
    (length_of e, one, refl, bound, omega (arith, l.1, size_is e (length_of e) l.0 refl))
