-- Each line is blank, an entry or bad, and so each text spells entries or has a first bad line.
use Rattle.dumpdates.proofs.Terms.{◌≡◌, ◌⊎◌, ℕ, ◌+◌, ◌<◌, true, List, [], ◌∷◌, ◌++◌, length, get_or, take, drop, bytes_eq, Option, Some, None, refl, arith, inl, inr, IsInRange, AllByRecursion, digit_value, digits_value, signed_arith, DatesEntry}
use Rattle.dumpdates.proofs.Terms.{AreEntries, words_of, is_space, AreSpaces, PlainWords, PlainFields, SpellsDigits, SpellsTime, SpellsWords, HasShape, IsBadLine, IsBadDate, lines_of, SpellLines, SpellsDates, IsEntryLine, HasDatesFault}
use Rattle.dumpdates.proofs.Terms.{weekday_names, colon, list_any, cases_eq, PlainMoment, IsMoment, seconds_at, BadLine, BadDate}
use Rattle.dumpdates.proofs.Naming.{Decided, by_test, is_weekday, weekday_is, month_or_not}
use Rattle.dumpdates.proofs.Reading.{HasRead, line_read, all_read, reached}
use Rattle.dumpdates.proofs.Shapes.{meaning, one_meaning, no_words, words_shape, other_words, spelled_is_entry}
use Rattle.dumpdates.proofs.Timing.{spelled_is_time, time_spelled}

all_or_not : (P : ℕ → Type 0) → ((n : ℕ) → Decided (P n)) → (xs : List ℕ) → Decided (AllByRecursion P xs)
all_or_not P each [] = inl tt
all_or_not P each (x ∷ xs) = grind (arith, each x, all_or_not P each xs)

-- a number, a time and the words of a line spell the one meaning that they can have, or none
number_or_not : (least most : ℕ) (text : List ℕ) → Decided (SpellsDigits least most text (digits_value 10 text))
number_or_not least most text = let digits = all_or_not (λ c. digit_value c < 10) (λ c. grind arith) text in grind arith

both_or_not : {P Q : Type 0} → Decided P → Decided Q → Decided (P × Q)
both_or_not p q = grind arith

time_or_not : (word : List ℕ)
    → Decided (SpellsTime word (digits_value 10 (take 2 word)) (digits_value 10 (take 2 (drop 3 word))) (digits_value 10 (drop 6 word)))
time_or_not word =
    elim (both_or_not (both_or_not (cases_eq (length word) 8) (both_or_not (cases_eq (get_or word 2 0) colon) (cases_eq (get_or word 5 0) colon)))
    (both_or_not (number_or_not 2 2 (take 2 word)) (both_or_not (number_or_not 2 2 (take 2 (drop 3 word))) (number_or_not 2 2 (drop 6 word))))) [
      | inl is ↦ inl (time_spelled word _ _ _
          (record { long = is.0.0; first = is.0.1.0; second = is.0.1.1; hour = is.1.0; minute = is.1.1.0; seconds = is.1.1.1 }))
      | inr never ↦ inr (λ t. let i = spelled_is_time word _ _ _ t in never ((i.long, (i.first, i.second)), (i.hour, (i.minute, i.seconds))))
    ]

words_or_not : (w : PlainWords) → Decided (SpellsWords w (meaning w))
words_or_not w =
    let name = all_or_not (IsInRange 33 126) (λ b. grind arith) w.name in let level = number_or_not 1 1 w.level in
    let weekday = by_test (list_any (λ name. bytes_eq name w.weekday) weekday_names) (is_weekday w.weekday) (weekday_is w.weekday) in
    grind (arith, month_or_not w.month, number_or_not 1 2 w.day, time_or_not w.time, number_or_not 4 4 w.year)

-- the line has the shape of an entry, or it has not
abbrev SomeShape : List ℕ → Type 0
SomeShape line = ((f : PlainFields) × HasShape line f) ⊎ ((f : PlainFields) → HasShape line f → ⊥)

shape_of_words : (line : List ℕ) (words : Option PlainWords) → words_of line ≡ words → SomeShape line
shape_of_words line None e = inr (no_words line e)
shape_of_words line (Some w) e = elim (words_or_not w) [
  | inl s ↦ inl (meaning w, words_shape line w (meaning w) e s)
  | inr never ↦ inr (other_words line w e (λ f s. never (rw (← one_meaning w f s) s)))
]

-- blank, an entry, or bad
abbrev LineKind : List ℕ → Type 0
LineKind line = (AreSpaces line ⊎ IsEntryLine line) ⊎ (IsBadLine line ⊎ IsBadDate line)

moment_or_not : (m : PlainMoment) → Decided (IsMoment m)
moment_or_not m = grind (arith, signed_arith)

-- each line is of a kind
line_kind : (line : List ℕ) → LineKind line
line_kind line = elim (all_or_not (λ b. is_space b ≡ true) (λ b. grind arith) line) [
  | inl blank ↦ inl (inl blank)
  | inr never ↦ elim (shape_of_words line (words_of line) refl) [
    | inl s ↦ elim (moment_or_not s.0.moment) [
      | inl m ↦ inl (inr (record { name = s.0.name; level = s.0.level; date = seconds_at s.0.moment }, (s.0, s.1, m, refl)))
      | inr bad ↦ inr (inr (s.0, s.1, bad))
    ]
    | inr none ↦ inr (inl (never, none))
  ]
]

-- the text spells entries, or has a first bad line
abbrev SomeReading : List ℕ → Type 0
SomeReading bytes =
    ((entries : List DatesEntry) × SpellsDates bytes entries) ⊎ ((n : ℕ) × (HasDatesFault bytes (BadLine n) ⊎ HasDatesFault bytes (BadDate n)))

read_on : (bytes : List ℕ) (lines : List (List ℕ)) (number : ℕ) (entries : List DatesEntry) → HasRead bytes lines number entries → SomeReading bytes
read_on bytes [] number entries h = inl (entries, all_read h)
read_on bytes (line ∷ lines) number entries h = elim (line_kind line) [
  | inl good ↦ elim good [
    | inl blank ↦ read_on bytes lines (number + 1) entries (line_read h (inl (blank, refl)))
    | inr entry ↦ read_on bytes lines (number + 1) (entries ++ entry.0 ∷ []) (line_read h (inr (entry.0, entry.1, refl)))
  ]
  | inr bad ↦ inr (number, elim bad [ inl b ↦ inl (reached h IsBadLine b) | inr b ↦ inr (reached h IsBadDate b) ])
]

-- each text spells entries, or has a first bad line
pub some_reading : (bytes : List ℕ) → SomeReading bytes
some_reading bytes = read_on bytes (lines_of bytes) 1 [] (record { before = []; split = refl; count = refl; good = refl })

lines_are_entries : (lines : List (List ℕ)) (entries : List DatesEntry) → SpellLines lines entries → AreEntries entries
lines_are_entries [] entries s = rw s tt
lines_are_entries (line ∷ lines) entries (inl s) = lines_are_entries lines entries s.1
lines_are_entries (line ∷ lines) entries (inr s) = rw s.3 (spelled_is_entry line s.0 s.2, lines_are_entries lines s.1 s.4)

-- what a text spells are entries
pub spelled_entries : (bytes : List ℕ) (entries : List DatesEntry) → SpellsDates bytes entries → AreEntries entries
spelled_entries bytes entries s = lines_are_entries (lines_of bytes) entries s
