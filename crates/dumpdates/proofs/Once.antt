-- A text spells one list of entries at most, or has one first bad line.
use Rattle.dumpdates.proofs.Terms.{◌≡◌, ◌⊎◌, ℕ, List, [], ◌∷◌, ◌++◌, length, refl, sym, ap, ◌∙◌, arith, inl, inr, nat_tests, DatesEntry, AreSpaces, PlainFields, HasShape, SpellsLine, IsBadLine, IsBadDate, AllByRecursion, IsEntryLine, lines_of}
use Rattle.dumpdates.proofs.Terms.{SpellLines, SpellsDates, IsReached, HasDatesFault, DatesFault, BadLine, BadDate, OutOfMemory}
use Rattle.dumpdates.proofs.Cutting.{IsWord}
use Rattle.dumpdates.proofs.Shapes.{are_words, one_meaning, shape_words}

-- a line of spaces has no words
no_word : (before word rest after : List ℕ) → AreSpaces (before ++ ((word ++ rest) ++ after)) → IsWord word → ⊥
no_word [] [] rest after blank w = absurd (omega arith)
no_word [] (b ∷ word) rest after blank w = grind (arith, nat_tests)
no_word (b ∷ before) word rest after blank w = no_word before word rest after blank.1 w

blank_no_shape : (line : List ℕ) (f : PlainFields) → AreSpaces line → HasShape line f → ⊥
blank_no_shape line f blank (w, l, s) =
    no_word l.before w.name (l.parted.0 ++ l.parted.1) l.after (rw (l.joined, l.parted.3) at blank) (are_words w f s).0

-- a line has one shape at most
one_shape : (line : List ℕ) (f g : PlainFields) → HasShape line f → HasShape line g → f ≡ g
one_shape line f g h k =
    let s = shape_words line f h in let t = shape_words line g k in let first = one_meaning s.0 f s.2 in let second = one_meaning t.0 g t.2 in cc

one_entry : (line : List ℕ) (d e : DatesEntry) → SpellsLine line d → SpellsLine line e → d ≡ e
one_entry line d e s t = let same = one_shape line s.0 t.0 s.1 t.1 in cc

-- lines spell one list of entries at most
one_list : (lines : List (List ℕ)) (es fs : List DatesEntry) → SpellLines lines es → SpellLines lines fs → es ≡ fs
one_list [] es fs s t = s ∙ sym t
one_list (line ∷ lines) es fs (inl s) (inl t) = one_list lines es fs s.1 t.1
one_list (line ∷ lines) es fs (inl s) (inr t) = absurd (blank_no_shape line t.2.0 s.0 t.2.1)
one_list (line ∷ lines) es fs (inr s) (inl t) = absurd (blank_no_shape line s.2.0 t.0 s.2.1)
one_list (line ∷ lines) es fs (inr s) (inr t) = let first = one_entry line s.0 t.0 s.2 t.2 in let rest = one_list lines s.1 t.1 s.4 t.4 in cc

pub one_text : (bytes : List ℕ) (es : List DatesEntry) → SpellsDates bytes es → (fs : List DatesEntry) → SpellsDates bytes fs → es ≡ fs
one_text bytes es s fs t = one_list (lines_of bytes) es fs s t

-- blank or an entry
abbrev IsGood : List ℕ → Type 0
IsGood line = AreSpaces line ⊎ IsEntryLine line

abbrev AreGood : List (List ℕ) → Type 0
AreGood lines = AllByRecursion IsGood lines

spelled_good : (lines : List (List ℕ)) (es : List DatesEntry) → SpellLines lines es → AreGood lines
spelled_good [] es s = tt
spelled_good (line ∷ lines) es (inl s) = (inl s.0, spelled_good lines es s.1)
spelled_good (line ∷ lines) es (inr s) = (inr (s.0, s.2), spelled_good lines s.1 s.4)

bad_line : (line : List ℕ) → IsBadLine line → IsGood line → ⊥
bad_line line bad (inl blank) = bad.0 blank
bad_line line bad (inr (e, (f, shape, moment, is))) = bad.1 f shape

bad_date : (line : List ℕ) → IsBadDate line → IsGood line → ⊥
bad_date line (f, shape, never) (inl blank) = blank_no_shape line f blank shape
bad_date line (f, shape, never) (inr (e, (g, other, moment, is))) = never (rw (one_shape line f g shape other) moment)

no_bad_line : (before : List (List ℕ)) (line : List ℕ) (after : List (List ℕ)) → AreGood (before ++ line ∷ after) → IsGood line
no_bad_line [] line after good = good.0
no_bad_line (first ∷ before) line after good = no_bad_line before line after good.1

-- the first bad line is one
first_bad : (before other : List (List ℕ)) (line bad : List ℕ) (after behind : List (List ℕ)) → before ++ line ∷ after ≡ other ++ bad ∷ behind
    → AreGood before → AreGood other → (IsGood line → ⊥) → (IsGood bad → ⊥) → (length before ≡ length other) × (line ≡ bad)
first_bad [] [] line bad after behind e s t b c = (refl, cc)
first_bad [] (first ∷ other) line bad after behind e s t b c = let same : line ≡ first = cc in absurd (b (rw same t.0))
first_bad (first ∷ before) [] line bad after behind e s t b c = let same : bad ≡ first = cc in absurd (c (rw same s.0))
first_bad (first ∷ before) (next ∷ other) line bad after behind e s t b c =
    grind (arith, first_bad before other line bad after behind (cc) s.1 t.1 b c)

-- a text that spells entries has no bad line
no_fault : {P : List ℕ → Type 0} {bytes : List ℕ} {n : ℕ} → ((line : List ℕ) → P line → IsGood line → ⊥) → IsReached P bytes n
    → AreGood (lines_of bytes) → ⊥
no_fault bad h good = bad h.line h.kind (no_bad_line h.before h.line h.after (rw h.split at good))

pub spelled_no_fault : (bytes : List ℕ) (es : List DatesEntry) (fault : DatesFault) → SpellsDates bytes es → HasDatesFault bytes fault
    → fault ≡ OutOfMemory
spelled_no_fault bytes es (BadLine n) s h = absurd (no_fault bad_line h (spelled_good (lines_of bytes) es s))
spelled_no_fault bytes es (BadDate n) s h = absurd (no_fault bad_date h (spelled_good (lines_of bytes) es s))
spelled_no_fault bytes es OutOfMemory s h = refl

same_place : {P Q : List ℕ → Type 0} {bytes : List ℕ} {m n : ℕ} → ((line : List ℕ) → P line → IsGood line → ⊥)
    → ((line : List ℕ) → Q line → IsGood line → ⊥) → (h : IsReached P bytes m) (k : IsReached Q bytes n) → (m ≡ n) × (h.line ≡ k.line)
same_place b c h k =
    let same = first_bad h.before k.before h.line k.line h.after k.after (sym h.split ∙ k.split) (spelled_good h.before h.entries h.good)
    (spelled_good k.before k.entries k.good) (b h.line h.kind) (c k.line k.kind) in
    (omega (arith, h.number, k.number, same.0), same.1)

-- and it has one first bad line at most
pub one_fault : (bytes : List ℕ) (fault other : DatesFault) → HasDatesFault bytes fault → HasDatesFault bytes other
    → (fault ≡ other) ⊎ ((fault ≡ OutOfMemory) ⊎ (other ≡ OutOfMemory))
one_fault bytes OutOfMemory other h k = inr (inl refl)
one_fault bytes (BadLine m) OutOfMemory h k = inr (inr refl)
one_fault bytes (BadDate m) OutOfMemory h k = inr (inr refl)
one_fault bytes (BadLine m) (BadLine n) h k = inl (ap BadLine (same_place bad_line bad_line h k).0)
one_fault bytes (BadDate m) (BadDate n) h k = inl (ap BadDate (same_place bad_date bad_date h k).0)
one_fault bytes (BadLine m) (BadDate n) h k = absurd (h.kind.1 k.kind.0 (rw (same_place bad_line bad_date h k).1 k.kind.1))
one_fault bytes (BadDate m) (BadLine n) h k = absurd (k.kind.1 h.kind.0 (rw (same_place bad_line bad_date k h).1 h.kind.1))
