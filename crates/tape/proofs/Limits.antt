-- A record file that was written with records up to a length spells the same entries where longer ones are allowed.
use Rattle.tape.proofs.Words.{◌≡◌, ◌↔◌, ℕ, ◌<◌, ◌≤◌, ◌^◌, List, [], ◌∷◌, ◌++◌, length, refl, sym, ap, subst, ◌∙◌, append_assoc, length-append, arith, append_cancel_left, append-nil, flat_map-append, All-nil, All-cons, All-append, All-weaker, PlainEntry, IsEntryUpTo, image_of, IsTailUpTo, SpellsReelUpTo, IsWrittenUpTo}
use Rattle.tape.proofs.Spelling.{image_size, one_image, spells_one}

-- a beginning of an image that is not all of it is a tail, under each limit
pub begun_tail : (l m : ℕ) (next : PlainEntry) (begun unwritten : List ℕ) → l < 2 ^ 32 → m < 2 ^ 32 → IsEntryUpTo l next
    → image_of next ≡ begun ++ unwritten → 0 < length unwritten → IsTailUpTo m begun
begun_tail l m next begun unwritten small few lawful is some e rest good begins =
    let whole : image_of next ++ [] ≡ image_of e ++ (rest ++ unwritten)
    = append-nil (image_of next) ∙ is ∙ ap (λ x. x ++ unwritten) begins ∙ append_assoc (image_of e) rest unwritten in
    let one = one_image l m next e [] (rest ++ unwritten) small few lawful good whole in
    let none = append_cancel_left (image_of next) [] (rest ++ unwritten) (whole ∙ ap (λ x. image_of x ++ (rest ++ unwritten)) (sym one)) in
    absurd (omega (arith, ap length none, length-append rest unwritten))

-- an entry within a limit is within a greater one
wider : (l m : ℕ) → l ≤ m → (e : PlainEntry) → IsEntryUpTo l e → IsEntryUpTo m e
wider l m less e lawful = grind arith

-- what was written, under each limit that is no less
spelled_by : (l m : ℕ) (bytes unwritten : List ℕ) (w : IsWrittenUpTo l bytes) → l ≤ m → m < 2 ^ 32 → unwritten ≡ w.unwritten
    → (entries : List PlainEntry) × ((n : ℕ) → l ≤ n → n < 2 ^ 32 → SpellsReelUpTo n bytes entries)
spelled_by l m bytes [] w less few is = (
  w.entries ++ w.next ∷ [],
  λ n more small. record {
    tail = [];
    whole =
        (let all : image_of w.next ≡ w.begun = w.image ∙ ap (λ x. w.begun ++ x) (sym is) ∙ append-nil w.begun in
        grind (arith, w.whole, append-nil {A = ℕ}, flat_map-append image_of w.entries (w.next ∷ [])));
    is_tail = λ e rest good none. absurd (omega (arith, ap length none, length-append (image_of e) rest, image_size e));
    lawful = All-append (IsEntryUpTo n) w.entries (w.next ∷ []) (All-weaker (IsEntryUpTo l) (IsEntryUpTo n) (wider l n more) w.entries w.lawful)
        (All-cons (IsEntryUpTo n) w.next [] (wider l n more w.next w.next_lawful) (All-nil (IsEntryUpTo n)));
  },
)
spelled_by l m bytes (b ∷ others) w less few is = (
  w.entries,
  λ n more small. record {
    tail = w.begun;
    whole = w.whole;
    is_tail = begun_tail l n w.next w.begun w.unwritten (omega arith) small w.next_lawful w.image (omega (arith, ap length is));
    lawful = All-weaker (IsEntryUpTo l) (IsEntryUpTo n) (wider l n more) w.entries w.lawful;
  },
)

pub same_entries : (older newer : ℕ) (bytes : List ℕ) (entries : List PlainEntry) → older ≤ newer → newer < 2 ^ 32
    → IsWrittenUpTo older bytes → SpellsReelUpTo older bytes entries ↔ SpellsReelUpTo newer bytes entries
same_entries older newer bytes entries less small w =
    let p = spelled_by older newer bytes w.unwritten w less small refl in
    let before = p.1 older (omega arith) (omega arith) in
    let after = p.1 newer less small in (
      λ s. subst (SpellsReelUpTo newer bytes) (spells_one older bytes p.0 entries (omega arith) before s) after,
      λ s. subst (SpellsReelUpTo older bytes) (spells_one newer bytes p.0 entries small after s) before,
    )
