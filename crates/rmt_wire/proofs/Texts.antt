-- The text of an error, as it is read and as it is kept.
use Rattle.rmt_wire.proofs.Words.{Bool, List, None, Some, [], ap, append-nil, append_assoc, arith, cond, eqb, if◌then◌else◌, inl, inr, length, length-append, length-drop, ltb, min, refl, subst, suc, sym, take, zero, ℕ, ⊎_elim, ◌++◌, ◌+◌, ◌==◌, ◌∙◌, ◌∷◌, ◌≡◌, ◌≤◌, ◌⊎◌, nat_tests, drop_all, drop_at, length-take, take-append-le, take-take, take_min, position, unwrap_or, line_feed, HasNoLineFeed, text_len, kept_text}
use Rattle.rmt_wire.proofs.Align.{no_feed_append}
use Rattle.rmt_wire.proofs.Numbers.{on}
use Rattle.std.proofs.lemmas.List.Recursion.{is_position_or_len}

-- the place of the first line feed, if there is one, and else the length
not_longer : (text : List ℕ) → text_len text ≤ length text
not_longer [] = omega arith
not_longer (b ∷ text) = grind (arith, not_longer text)

step_at : (n : ℕ) (test : Bool) → (if test then 0 else suc n) ≡ cond test 0 (1 + n)
step_at n test = grind arith

found_at : (n len : ℕ) (test : Bool) → ltb n len ≡ test → n ≤ len → unwrap_or (cond test (Some n) None) len ≡ n
found_at n len test e h = grind (arith, nat_tests)

pub found_len : (text : List ℕ) → unwrap_or (position (λ b. b == line_feed) text) (length text) ≡ text_len text
found_len text =
    let same = is_position_or_len text_len (λ b. b == line_feed) refl (λ b bytes. step_at (text_len bytes) (b == line_feed)) text in
    subst (λ n. unwrap_or (cond (ltb n (length text)) (Some n) None) (length text) ≡ n) same
    (found_at (text_len text) (length text) (ltb (text_len text) (length text)) refl (not_longer text))
    ∙ sym same

-- a line ends at its line feed
pub ended_len : (line rest : List ℕ) → HasNoLineFeed line → text_len (line ++ line_feed ∷ rest) ≡ length line
ended_len [] rest h = refl
ended_len (b ∷ line) rest h = grind (arith, nat_tests, ended_len line rest h.1)

-- and without one it is all that there is
pub open_len : (line : List ℕ) → HasNoLineFeed line → text_len line ≡ length line
open_len [] h = refl
open_len (b ∷ line) h = grind (arith, nat_tests, open_len line h.1)

-- a text has a line feed, or none
abbrev pub TextView : List ℕ → Type 0
TextView text = HasNoLineFeed text ⊎ ((line rest : List ℕ) × HasNoLineFeed line × (text ≡ line ++ line_feed ∷ rest))

pub text_view : (text : List ℕ) → TextView text
text_view [] = inl tt
text_view (b ∷ text) =
    on (eqb b line_feed)
    (λ e. inr ([], text, tt, (let same : b ≡ line_feed = grind (arith, nat_tests) in ap (λ x. x ∷ text) same)))
    (λ other. ⊎_elim (λ h. inl (grind (arith, nat_tests), h)) (λ w. inr (b ∷ w.0, w.1, (grind (arith, nat_tests), w.2), ap (λ l. b ∷ l) w.3)) (text_view text))

-- the beginning of a line is one
pub take_no_feed : (n : ℕ) (line : List ℕ) → HasNoLineFeed line → HasNoLineFeed (take n line)
take_no_feed zero line h = tt
take_no_feed (suc n) [] h = tt
take_no_feed (suc n) (b ∷ line) h = (h.0, take_no_feed n line h.1)

-- what was taken can be taken again, with more after it
pub take_again : (n : ℕ) (xs ys : List ℕ) → take n (take n xs ++ ys) ≡ take n (xs ++ ys)
take_again zero xs ys = refl
take_again (suc n) [] ys = refl
take_again (suc n) (x ∷ xs) ys = ap (λ l. x ∷ l) (take_again n xs ys)

pub take_twice : (n : ℕ) (xs : List ℕ) → take n (take n xs) ≡ take n xs
take_twice n xs = take-take n n xs (omega arith)

-- no more of a text is kept than there is
pub kept_text_few : (text : List ℕ) → length (kept_text text) ≤ length text
kept_text_few text = omega (arith, length-append {A = ℕ}, length-take {A = ℕ}, length-drop {A = ℕ}, not_longer text)

-- of a line the first 255 bytes are kept
pub kept_open : (line : List ℕ) → HasNoLineFeed line → kept_text line ≡ take 255 line
kept_open line h = rw (open_len line h, take_min 255 line, drop_all (length line) line (omega arith)) (append-nil (take 255 line))

-- and all that stands from its line feed on
pub kept_ended : (line rest : List ℕ) → HasNoLineFeed line → kept_text (line ++ line_feed ∷ rest) ≡ take 255 line ++ line_feed ∷ rest
kept_ended line rest h =
    rw (ended_len line rest h, take-append-le (min 255 (length line)) line (line_feed ∷ rest) (omega arith), take_min 255 line)
    (ap (λ l. take 255 line ++ l) (drop_at line (line_feed ∷ rest) (length line) refl))

-- what was kept is kept again, with more after it
again_open : (text piece : List ℕ) → HasNoLineFeed text → TextView piece → kept_text (take 255 text ++ piece) ≡ kept_text (text ++ piece)
again_open text piece h v =
    let kept = take_no_feed 255 text h in
    ⊎_elim
    (λ p. kept_open (take 255 text ++ piece) (no_feed_append (take 255 text) piece kept p) ∙ take_again 255 text piece
    ∙ sym (kept_open (text ++ piece) (no_feed_append text piece h p)))
    (λ w.
    let both : (t : List ℕ) → HasNoLineFeed t → kept_text (t ++ piece) ≡ take 255 (t ++ w.0) ++ line_feed ∷ w.1 =
    λ t k. ap (λ l. kept_text (t ++ l)) w.3 ∙ ap kept_text (sym (append_assoc t w.0 (line_feed ∷ w.1)))
    ∙ kept_ended (t ++ w.0) w.1 (no_feed_append t w.0 k w.2) in
    both (take 255 text) kept ∙ ap (λ l. l ++ line_feed ∷ w.1) (take_again 255 text w.0) ∙ sym (both text h))
    v

again_ended : (line rest piece : List ℕ) → HasNoLineFeed line
    → kept_text ((take 255 line ++ line_feed ∷ rest) ++ piece) ≡ kept_text ((line ++ line_feed ∷ rest) ++ piece)
again_ended line rest piece h = rw (append_assoc (take 255 line) (line_feed ∷ rest) piece, append_assoc line (line_feed ∷ rest) piece)
    (kept_ended (take 255 line) (rest ++ piece) (take_no_feed 255 line h) ∙ ap (λ l. l ++ line_feed ∷ (rest ++ piece)) (take_twice 255 line)
    ∙ sym (kept_ended line (rest ++ piece) h))

pub kept_again : (text piece : List ℕ) → kept_text (kept_text text ++ piece) ≡ kept_text (text ++ piece)
kept_again text piece =
    ⊎_elim (λ h. ap (λ l. kept_text (l ++ piece)) (kept_open text h) ∙ again_open text piece h (text_view piece))
    (λ w. ap (λ l. kept_text (kept_text l ++ piece)) w.3 ∙ ap (λ l. kept_text (l ++ piece)) (kept_ended w.0 w.1 w.2)
    ∙ again_ended w.0 w.1 piece w.2 ∙ ap (λ l. kept_text (l ++ piece)) (sym w.3))
    (text_view text)
