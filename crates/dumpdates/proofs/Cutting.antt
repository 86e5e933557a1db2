-- A line falls into words in one way, and so it is cut from its front.
use Rattle.dumpdates.proofs.Terms.{◌≡◌, ℕ, suc, ◌+◌, ◌<◌, Bool, true, false, not, List, [], ◌∷◌, ◌++◌, length, take, drop, refl, sym, ap, ◌∙◌, arith, append_assoc, IsInRange, AllByRecursion, prefix_len, position_or_len, cond_both, nat_tests}
use Rattle.dumpdates.proofs.Terms.{take-append-drop, take-append_seam, drop-append_seam, after_spaces, first_word, after_word, is_space, AreSpaces, IsGap, AreParted, IsLineOfWords}

-- what is so of each element of two lists is so of each element of both
pub all_joined : {X : Type 0} (P : X → Type 0) (a b : List X) → AllByRecursion P a → AllByRecursion P b → AllByRecursion P (a ++ b)
all_joined P [] b s t = t
all_joined P (x ∷ a) b s t = (s.0, all_joined P a b s.1 t)

-- and so is what follows from it
pub all_weaker : (P Q : ℕ → Type 0) → ((b : ℕ) → P b → Q b) → (text : List ℕ) → AllByRecursion P text → AllByRecursion Q text
all_weaker P Q follows [] h = tt
all_weaker P Q follows (b ∷ text) h = (follows b h.0, all_weaker P Q follows text h.1)

-- each byte passes
abbrev pub AllPass : (ℕ → Bool) → List ℕ → Type 0
AllPass p xs = AllByRecursion (λ b. p b ≡ true) xs

-- the first byte, if there is one, does not
abbrev StopsAt : (ℕ → Bool) → List ℕ → Type 0
StopsAt p [] = Unit {0}
StopsAt p (b ∷ rest) = p b ≡ false

-- the longest front that passes, and what stops it
taken_stops : (p : ℕ → Bool) (xs : List ℕ) → AllPass p (take (prefix_len p xs) xs) × StopsAt p (drop (prefix_len p xs) xs)
taken_stops p [] = (tt, tt)
taken_stops p (x ∷ xs) =
    let n = prefix_len p xs in let h = taken_stops p xs in let next : 1 + n ≡ suc n = omega arith in
    cond_both (p x) (1 + n) 0 (λ k. AllPass p (take k (x ∷ xs)) × StopsAt p (drop k (x ∷ xs))) (λ e. rw next ((e, h.0), h.1)) (λ e. (tt, e))

-- a front that passes, and a rest that stops it
front_len : (p : ℕ → Bool) (front rest : List ℕ) → AllPass p front → StopsAt p rest → prefix_len p (front ++ rest) ≡ length front
front_len p [] [] pass stop = refl
front_len p [] (x ∷ rest) pass stop = rw stop refl
front_len p (x ∷ front) rest pass stop = grind (arith, front_len p front rest pass.1 stop, pass.0)

-- a word has at least one byte, and only bytes from 33 to 126
abbrev pub IsWord : List ℕ → Type 0
IsWord word = (0 < length word) × AllByRecursion (IsInRange 33 126) word

-- what follows a word: nothing, or a space first
abbrev EndsWord : List ℕ → Type 0
EndsWord rest = StopsAt (λ b. not (is_space b)) rest

word_stops : (word rest : List ℕ) → IsWord word → StopsAt is_space (word ++ rest)
word_stops [] rest w = absurd (omega arith)
word_stops (b ∷ word) rest w = grind (arith, nat_tests)

-- a word after spaces is cut off
cut_front : (before word rest : List ℕ) → AreSpaces before → IsWord word → EndsWord rest
    → (first_word (before ++ (word ++ rest)) ≡ word) × (after_word (before ++ (word ++ rest)) ≡ rest)
unfolding first_word after_word after_spaces
cut_front before word rest spaces w ends =
    let visible = all_weaker (IsInRange 33 126) (λ b. not (is_space b) ≡ true) (λ b i. grind (arith, nat_tests)) word w.1 in
    let first = front_len is_space before (word ++ rest) spaces (word_stops word rest w) in
    rw (first, drop-append_seam before (word ++ rest), front_len (λ b. not (is_space b)) word rest visible ends)
    (take-append_seam word rest, drop-append_seam word rest)

-- a line is spaces, its first word, and the bytes after that word
pub record IsCut (line : List ℕ) : Type 0 where
  pub gap : List ℕ
  pub spaces : AreSpaces gap
  pub joined : line ≡ gap ++ (first_word line ++ after_word line)
  pub ends : EndsWord (after_word line)

is_cut : (line : List ℕ) → IsCut line
unfolding first_word after_word after_spaces
is_cut line =
    let text = drop (prefix_len is_space line) line in
    record {
      gap = take (prefix_len is_space line) line;
      spaces = (taken_stops is_space line).0;
      joined = rw (take-append-drop (position_or_len is_space text) text) (sym (take-append-drop (prefix_len is_space line) line));
      ends = (taken_stops (λ b. not (is_space b)) text).1;
    }

-- the line is cut into these words, one after the other, and nothing but spaces is left
abbrev pub IsCutInto : List ℕ → List (List ℕ) → Type 0
IsCutInto line [] = AreSpaces line
IsCutInto line (word ∷ words) = (first_word line ≡ word) × IsCutInto (after_word line) words

abbrev pub AreWords : List (List ℕ) → Type 0
AreWords words = AllByRecursion IsWord words

gap_ends : (gap rest : List ℕ) → IsGap gap → EndsWord (gap ++ rest)
gap_ends [] rest g = absurd (omega arith)
gap_ends (b ∷ gap) rest g = ap not g.1.0

-- words that are parted by gaps are cut off one after the other
parted_is_cut : (word : List ℕ) (words : List (List ℕ)) (before text after : List ℕ) → AreWords (word ∷ words) → AreSpaces before → AreSpaces after
    → AreParted text (word ∷ words) → IsCutInto (before ++ (text ++ after)) (word ∷ words)
parted_is_cut word [] before text after w b a e = let cut = cut_front before word after b w.0 (grind arith) in rw (e, cut.0, cut.1) (refl, a)
parted_is_cut word (next ∷ words) before text after w b a (gap, rest, g, is, parted) =
    let cut = cut_front before word (gap ++ (rest ++ after)) b w.0 (gap_ends gap (rest ++ after) g) in
    rw (is, append_assoc word (gap ++ rest) after, append_assoc gap rest after, cut.0, cut.1)
    (refl, parted_is_cut next words gap rest after w.1 g.1 a parted)

pub line_is_cut : (line word : List ℕ) (words : List (List ℕ)) → AreWords (word ∷ words) → IsLineOfWords line (word ∷ words)
    → IsCutInto line (word ∷ words)
line_is_cut line word words w l = rw l.joined (parted_is_cut word words l.before l.text l.after w l.spaces_before l.spaces_after l.parted)

-- a word does not begin where another ends
gap_between : (gap word rest : List ℕ) → AreSpaces gap → IsWord word → EndsWord (gap ++ (word ++ rest)) → IsGap gap
gap_between [] [] rest s w ends = absurd (omega arith)
gap_between [] (b ∷ word) rest s w ends = grind (arith, nat_tests)
gap_between (b ∷ gap) word rest s w ends = (omega arith, s)

-- and a line that is cut into words is these words with gaps between them
abbrev IsJoined : List ℕ → List (List ℕ) → Type 0
IsJoined line words = (text after : List ℕ) × AreSpaces after × AreParted text words × (line ≡ (is_cut line).gap ++ (text ++ after))

cut_is_joined : (line word : List ℕ) (words : List (List ℕ)) → AreWords (word ∷ words) → IsCutInto line (word ∷ words) → IsJoined line (word ∷ words)
cut_is_joined line word [] w c = (word, after_word line, c.1, refl, rw c.0 at ((is_cut line).joined))
cut_is_joined line word (next ∷ words) w (is, c) =
    let cut = is_cut line in let behind = is_cut (after_word line) in
    let (text, after, spaces, parted, joined) = cut_is_joined (after_word line) next words w.1 c in
    let gap = gap_between behind.gap next (after_word (after_word line)) behind.spaces w.1.0 (rw (behind.joined, c.0) at cut.ends) in
    (word ++ (behind.gap ++ text), after, spaces, (behind.gap, text, gap, refl, parted), simp append_assoc (cut.joined ∙ cc))

pub cut_is_line : (line word : List ℕ) (words : List (List ℕ)) → AreWords (word ∷ words) → IsCutInto line (word ∷ words)
    → IsLineOfWords line (word ∷ words)
cut_is_line line word words w c =
    let cut = is_cut line in let (text, after, spaces, parted, joined) = cut_is_joined line word words w c in
    record { before = cut.gap; text = text; after = after; spaces_before = cut.spaces; spaces_after = spaces; parted = parted; joined = joined }
