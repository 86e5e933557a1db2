-- Lines that are read one after another.
use Rattle.dumpdates.proofs.Terms.{◌≡◌, ℕ, ◌+◌, ◌<◌, not, eqb, List, [], ◌∷◌, ◌++◌, length, take, drop, refl, sym, ap, ◌∙◌, arith, append_assoc, length-append, inl, inr, position_or_len, cases_lt, take_all, append-nil, slice_split_first}
use Rattle.dumpdates.proofs.Terms.{slice_split_none, fails_before_first, prefix_len-le-length, DatesEntry, IsAdded, IsReached, lines_of, SpellLines, SpellsDates, line_feed, IsLineRefused, HasDatesFault, IsBadLine, IsBadDate, IsEntryLine, DatesFault}
use Rattle.dumpdates.proofs.Terms.{BadLine, BadDate, OutOfMemory}

-- the lines before `lines` spell `entries`, and the first of `lines` has this number
pub record HasRead (bytes : List ℕ) (lines : List (List ℕ)) (number : ℕ) (entries : List DatesEntry) : Type 0 where
  pub before : List (List ℕ)
  pub split : lines_of bytes ≡ before ++ lines
  pub count : number ≡ length before + 1
  pub good : SpellLines before entries

-- one line more
good_more : (before : List (List ℕ)) (line : List ℕ) (old new : List DatesEntry) → SpellLines before old → IsAdded line old new
    → SpellLines (before ++ line ∷ []) new
good_more [] line old new good (inl blank) = inl (blank.0, blank.1 ∙ good)
good_more [] line old new good (inr entry) = inr (entry.0, [], entry.1, entry.2 ∙ ap (λ o. o ++ entry.0 ∷ []) good, refl)
good_more (first ∷ before) line old new (inl blank) added = inl (blank.0, good_more before line old new blank.1 added)
good_more (first ∷ before) line old new (inr (e, later, is, old_is, good)) (inl blank) =
    inr (e, later, is, blank.1 ∙ old_is, good_more before line later later good (inl (blank.0, refl)))
good_more (first ∷ before) line old new (inr (e, later, is, old_is, good)) (inr (d, spelled, new_is)) =
    inr (e, later ++ d ∷ [], is, rw old_is at new_is, good_more before line later (later ++ d ∷ []) good (inr (d, spelled, refl)))

module _ {bytes line : List ℕ} {lines : List (List ℕ)} {number : ℕ} {old : List DatesEntry} (h : HasRead bytes (line ∷ lines) number old) where
  pub line_read : {new : List DatesEntry} → IsAdded line old new → HasRead bytes lines (number + 1) new
  line_read {new} added = record {
    before = h.before ++ line ∷ [];
    split = h.split ∙ sym (append_assoc h.before (line ∷ []) lines);
    count = omega (arith, h.count, length-append h.before (line ∷ []));
    good = good_more h.before line old new h.good added;
  }

  -- the line is of this kind, and all lines before it are blank or entries
  pub reached : (Kind : List ℕ → Type 0) → Kind line → IsReached Kind bytes number
  reached Kind kind =
      record { before = h.before; line = line; after = lines; entries = old; split = h.split; number = h.count; good = h.good; kind = kind }

pub all_read : {bytes : List ℕ} {number : ℕ} {entries : List DatesEntry} → HasRead bytes [] number entries → SpellsDates bytes entries
all_read h = rw (h.split, append-nil h.before) h.good

-- the first line of a text
first_line : (text : List ℕ) (len : ℕ) → len ≡ position_or_len (λ b. eqb b line_feed) text → len < length text
    → lines_of text ≡ take len text ∷ lines_of (drop (len + 1) text)
first_line text len is within = rw is (slice_split_first (λ b. eqb b line_feed) text 0 (rw is at within))

-- a text that is one line
only_line : (text : List ℕ) (len : ℕ) → len ≡ position_or_len (λ b. eqb b line_feed) text → len ≡ length text → lines_of text ≡ take len text ∷ []
only_line text len is all =
    slice_split_none (λ b. eqb b line_feed) text (λ k d h. fails_before_first (λ b. eqb b line_feed) text k d (omega arith))
    ∙ ap (λ t. t ∷ []) (sym (take_all len text (omega arith)))

some_line : (text : List ℕ) (len : ℕ) → len ≡ position_or_len (λ b. eqb b line_feed) text
    → (after : List (List ℕ)) × (lines_of text ≡ take len text ∷ after)
some_line text len is = elim (cases_lt len (length text)) [
  | inl lt ↦ (lines_of (drop (len + 1) text), first_line text len is lt)
  | inr ge ↦ ([], only_line text len is (omega (arith, prefix_len-le-length (λ b. not (eqb b line_feed)) text)))
]

-- The first line of the rest of a text is refused, or is read as the last one, or is read and others follow.
module _ (rest : List ℕ) {bytes : List ℕ} {number len : ℕ} {old : List DatesEntry} (h : HasRead bytes (lines_of rest) number old) (is : len ≡ position_or_len (λ b. eqb b line_feed) rest) where
  pub line_refused : (fault : DatesFault) → IsLineRefused (take len rest) number fault → HasDatesFault bytes fault
  line_refused (BadLine k) r = rw r.0 (reached (rw (some_line rest len is).1 at h) IsBadLine r.1)
  line_refused (BadDate k) r = rw r.0 (reached (rw (some_line rest len is).1 at h) IsBadDate r.1)
  line_refused OutOfMemory r = (number, reached (rw (some_line rest len is).1 at h) IsEntryLine r)

  pub last_read : (new : List DatesEntry) → len ≡ length rest → IsAdded (take len rest) old new → SpellsDates bytes new
  last_read new all added = all_read (line_read (rw (only_line rest len is all) at h) added)

  pub next_read : (new : List DatesEntry) → len < length rest → IsAdded (take len rest) old new
      → HasRead bytes (lines_of (drop (len + 1) rest)) (number + 1) new
  next_read new more added = line_read (rw (first_line rest len is more) at h) added
