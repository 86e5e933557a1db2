-- Bytes that are added after a place, and the entries that they are.
use Rattle.tape.proofs.Words.{◌≡◌, ◌⊎◌, ℕ, zero, suc, ◌+◌, ◌-◌, ◌*◌, ◌<◌, ◌≤◌, List, [], ◌∷◌, ◌++◌, length, take, drop, replicate, Result, Ok, Err, inl, inr, refl, sym, ap, ◌∙◌, append_assoc, append-nil, length-append, length-drop, length-take, take-append-drop, arith, take-append-le, take-replicate, replicate-append-replicate, All-head, All-tail, All-append, sum_by-cons, flat_map-append, cases_lt, All, PlainEntry, Tape, IsTapeEntry, tape, size_of, offset_of, Mark, MediumStep, Append, Cut, length_bytes, image_of, images_of, IsTail, SpellsReel, IsFile, IsImageWritten, MediumFailed, take-append-add, RECORD_LIMIT}
use Rattle.tape.proofs.Appends.{append_then, append_short}
use Rattle.tape.proofs.Spelling.{length_length_bytes, tail_spells, tail_short, more_spells}
use Rattle.tape.proofs.Limits.{begun_tail}
use Rattle.tape.proofs.Places.{parted, joined}

-- ---- a cut and an append

pub cut_append : (at : ℕ) (image : List ℕ) (r : Result Unit MediumFailed) (u : Unit {0}) (x y z : List ℕ) → MediumStep (Cut at (Ok u)) x y
    → MediumStep (Append image r) y z → IsImageWritten at image r x z
cut_append at image r u x y z first next = grind arith

pub cut_failed : (at : ℕ) (image : List ℕ) (e d : MediumFailed) (x y : List ℕ) → MediumStep (Cut at (Err e)) x y → IsImageWritten at image (Err d) x y
cut_failed at image e d x y step = elim step [ inl same ↦ inl same | inr gone ↦ inr (0, gone ∙ sym (append-nil (take at x))) ]

-- ---- what was written as entries

-- a part of an image is no image
part_tail : (e : PlainEntry) (n : ℕ) → IsTapeEntry e → n < length (image_of e) → IsTail (take n (image_of e))
part_tail e n lawful short =
    begun_tail RECORD_LIMIT RECORD_LIMIT e (take n (image_of e)) (drop n (image_of e)) (omega arith) (omega arith) lawful
    (sym (take-append-drop n (image_of e))) (omega (arith, length-drop n (image_of e)))

-- the first bytes of the images of entries spell the first of the entries
torn : (written : List PlainEntry) (n : ℕ) → All IsTapeEntry written → (k : ℕ) × SpellsReel (take n (images_of written)) (take k written)
torn [] n lawful = (0, tail_spells (take n []) (tail_short (take n []) (omega (arith, length-take n (images_of [])))))
torn (e ∷ es) n lawful = elim (cases_lt n (length (image_of e))) [
  | inl short ↦
      let tail = part_tail e n (All-head IsTapeEntry e es lawful) short in
      (0, rw (take-append-le n (image_of e) (images_of es) (omega arith)) (tail_spells (take n (image_of e)) tail))
  | inr long ↦
      let rest = n - length (image_of e) in
      let others = torn es rest (All-tail IsTapeEntry e es lawful) in
      let size : n ≡ length (image_of e) + rest = omega arith in
      let all = ap (λ k. take k (image_of e ++ images_of es)) size ∙ take-append-add (image_of e) (images_of es) rest in
      let first = All-head IsTapeEntry e es lawful in
      (suc others.0, more_spells (take n (image_of e ++ images_of es)) (take rest (images_of es)) e (take others.0 es) first all others.1)
]

-- the entries before the place and others after it
put_file : (x y part : List ℕ) (at : ℕ) (t : Tape) (after : List PlainEntry) → IsFile x at t → y ≡ take at x ++ part → SpellsReel part after → IsFile y at (tape t.before after)
put_file x y part at t after f is s = let p = parted f in joined y part at t.before after (is ∙ ap (λ l. l ++ part) p.front) f.offset_is p.lawful s

pub written_whole : (x y image : List ℕ) (at to : ℕ) (t : Tape) (written : List PlainEntry) → IsFile x at t → All IsTapeEntry written → image ≡ images_of written
    → to ≡ at + length image → y ≡ take at x ++ image → IsFile y to (tape (t.before ++ written) [])
written_whole x y image at to t written f lawful image_is to_is is =
    let p = parted f in
    let o = f.offset_is in
    let all : images_of (t.before ++ written) ≡ images_of t.before ++ image
    = flat_map-append image_of t.before written ∙ ap (λ l. images_of t.before ++ l) (sym image_is) in
    joined y [] to (t.before ++ written) [] (is ∙ ap (λ l. l ++ image) p.front ∙ sym all ∙ sym (append-nil (images_of (t.before ++ written))))
    (omega (arith, ap length all, length-append (images_of t.before) image)) (All-append IsTapeEntry t.before written p.lawful lawful)
    (tail_spells [] (tail_short [] (omega arith)))

pub written_part : (x y image : List ℕ) (at : ℕ) (e : MediumFailed) (t : Tape) (written : List PlainEntry) → IsFile x at t → All IsTapeEntry written
    → image ≡ images_of written → IsImageWritten at image (Err e) x y
    → (u : Tape) × IsFile y at u × ((u.before ≡ t.before) × ((u.after ≡ t.after) ⊎ ((n : ℕ) × (u.after ≡ take n written))))
written_part x y image at e t written f lawful image_is step = elim step [
  | inl same ↦ (t, rw same f, (refl, inl refl))
  | inr some ↦
      let s = torn written some.0 lawful in
      (tape t.before (take s.0 written), put_file x y _ at t (take s.0 written) f (rw image_is at some.1) s.1, (refl, inr (s.0, refl)))
]

zero_image : replicate 4 0 ≡ length_bytes 0
unfolding length_bytes
zero_image = refl

-- the images of marks are zero bytes
pub marks_image : (count : ℕ) → replicate (4 * count) 0 ≡ images_of (replicate count Mark)
marks_image zero = refl
marks_image (suc count) =
    let more : 4 * suc count ≡ 4 + 4 * count = omega arith in
    ap (λ k. replicate k 0) more ∙ sym (replicate-append-replicate 4 (4 * count) 0) ∙ ap (λ l. replicate 4 0 ++ l) (marks_image count) ∙ ap (λ l. l ++ images_of (replicate count Mark)) zero_image

-- ---- rows of zero bytes

rows : (row : List ℕ) (done size : ℕ) → row ≡ replicate (length row) 0 → size ≤ length row
    → replicate done 0 ++ take size row ≡ replicate (done + size) 0
rows row done size zeros fits =
    ap (λ l. replicate done 0 ++ l) (ap (take size) zeros ∙ take-replicate size (length row) 0 fits) ∙ replicate-append-replicate done size 0

pub zeros_more : (x y z row : List ℕ) (done size : ℕ) → row ≡ replicate (length row) 0 → size ≤ length row → y ≡ x ++ replicate done 0 → z ≡ y ++ take size row
    → z ≡ x ++ replicate (done + size) 0
zeros_more x y z row done size zeros fits first next =
    append_then (replicate done 0) (take size row) (Ok tt) x y z first next ∙ ap (λ l. x ++ l) (rows row done size zeros fits)

pub zeros_part : (x y z row : List ℕ) (done size count : ℕ) (e d : MediumFailed) → row ≡ replicate (length row) 0 → size ≤ length row → done + size ≤ count
    → y ≡ x ++ replicate done 0 → MediumStep (Append (take size row) (Err e)) y z → MediumStep (Append (replicate count 0) (Err d)) x z
zeros_part x y z row done size count e d zeros fits within first next =
    let rest = replicate (count - (done + size)) 0 in
    let all : done + size + (count - (done + size)) ≡ count = omega arith in
    let whole : replicate done 0 ++ (take size row ++ rest) ≡ replicate count 0
    = sym (append_assoc (replicate done 0) (take size row) rest) ∙ ap (λ l. l ++ rest) (rows row done size zeros fits)
    ∙ replicate-append-replicate (done + size) (count - (done + size)) 0 ∙ ap (λ k. replicate k 0) all in
    rw (sym whole) (append_then (replicate done 0) (take size row ++ rest) (Err d) x y z first (append_short (take size row) rest e d y z next))

-- ---- lengths of images

pub image_length : (e : PlainEntry) → length (image_of e) ≡ size_of e
image_length e = grind (arith, length-append {A = ℕ}, length_length_bytes)

pub images_length : (entries : List PlainEntry) → length (images_of entries) ≡ offset_of entries
images_length [] = refl
images_length (e ∷ es) = omega (arith, length-append (image_of e) (images_of es), image_length e, images_length es, sum_by-cons size_of e es)

pub offset_at : (bytes : List ℕ) (at : ℕ) (t : Tape) → IsFile bytes at t → offset_of t.before ≡ at
offset_at bytes at t f = sym (images_length t.before) ∙ sym f.offset_is
