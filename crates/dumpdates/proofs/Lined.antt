-- What is written of entries falls into a line for each.
use Rattle.dumpdates.proofs.Terms.{◌≡◌, ℕ, true, false, eqb, List, [], ◌∷◌, ◌++◌, ap, ◌∙◌, arith, append_assoc, inr, inl, refl, IsInRange, AllByRecursion, nat_tests, All-from_recursion, slice_split_at, DatesEntry, IsEntry, AreEntries, is_space}
use Rattle.dumpdates.proofs.Terms.{AreSpaces, AreParted, PlainFields, HasShape, word_list, lines_of, SpellsDates, line_feed, line_text, written}
use Rattle.dumpdates.proofs.Again.{line_front, front_spelled}
use Rattle.dumpdates.proofs.Cutting.{all_joined, all_weaker, AreWords}
use Rattle.dumpdates.proofs.Shapes.{are_words}

-- no byte of it is a line feed
abbrev IsOneLine : List ℕ → Type 0
IsOneLine text = AllByRecursion (λ b. eqb b line_feed ≡ false) text

word_in_line : (word : List ℕ) → AllByRecursion (IsInRange 33 126) word → IsOneLine word
word_in_line = all_weaker (IsInRange 33 126) (λ b. eqb b line_feed ≡ false) (λ b h. grind (arith, nat_tests))

gap_in_line : (gap : List ℕ) → AreSpaces gap → IsOneLine gap
gap_in_line = all_weaker (λ b. is_space b ≡ true) (λ b. eqb b line_feed ≡ false) (λ b h. grind (arith, nat_tests))

joined_in_line : (a b : List ℕ) → IsOneLine a → IsOneLine b → IsOneLine (a ++ b)
joined_in_line = all_joined (λ b. eqb b line_feed ≡ false)

parted_in_line : (words : List (List ℕ)) (text : List ℕ) → AreWords words → AreParted text words → IsOneLine text
parted_in_line [] text w is = rw is tt
parted_in_line (word ∷ []) text w is = rw is (word_in_line word w.0.1)
parted_in_line (word ∷ next ∷ words) text w (gap, rest, g, is, parted) =
    rw is (joined_in_line word (gap ++ rest) (word_in_line word w.0.1)
    (joined_in_line gap rest (gap_in_line gap g.1) (parted_in_line (next ∷ words) rest w.1 parted)))

shape_in_line : (line : List ℕ) (f : PlainFields) → HasShape line f → IsOneLine line
shape_in_line line f (w, l, s) =
    rw l.joined (joined_in_line l.before (l.text ++ l.after) (gap_in_line l.before l.spaces_before)
    (joined_in_line l.text l.after (parted_in_line (word_list w) l.text (are_words w f s) l.parted) (gap_in_line l.after l.spaces_after)))

-- the line of an entry is the first line
first_line_written : (e : DatesEntry) (later : List ℕ) → IsEntry e → lines_of (line_text e ++ later) ≡ line_front e ∷ lines_of later
unfolding line_text
first_line_written e later i =
    let s = front_spelled e i in let same : line_text e ++ later ≡ line_front e ++ line_feed ∷ later = simp append_assoc in
    ap lines_of same ∙ slice_split_at (λ b. eqb b line_feed) (line_front e) line_feed later
    (All-from_recursion (λ b. eqb b line_feed ≡ false) (line_front e) (shape_in_line (line_front e) s.0 s.1)) refl

-- what is written of entries spells them
pub written_spells : (entries : List DatesEntry) → AreEntries entries → SpellsDates (written entries) entries
written_spells [] h = inl (tt, refl)
written_spells (e ∷ entries) h =
    rw (first_line_written e (written entries) h.0) (inr (e, entries, front_spelled e h.0, refl, written_spells entries h.1))
