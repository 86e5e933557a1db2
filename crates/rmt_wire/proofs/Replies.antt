-- The grammar of replies: how the front of bytes is read, for each wanted kind.
use Rattle.rmt_wire.proofs.Words.{List, None, Ok, Some, [], ap, append_assoc, arith, drop, false, inl, inr, length, length-append, length-drop, ltb, refl, subst, sym, take, ℕ, ⊎_elim, ◌++◌, ◌+◌, ◌<◌, ◌∙◌, ◌∷◌, ◌≡◌, ◌≤◌, cases_lt, nat_tests, length-take, length-take-le, take-append-le, take_at, take_min, digit_value, AllDigits, SpellsNumber, line_feed, HasNoLineFeed, Parsed, number_front, PlainReply, Wanted, SpellsReply, Error, Done, Data, Number, DataUpTo, IsTooMuch, ReplyIsCause, kept_text, kept_behind, error_at, data_at, reply_front, done_front, error_front, kept_of, IsWithin, WireFault, NotAReply, READER_LIMIT, Place}
use Rattle.rmt_wire.proofs.Grammars.{View, Seen, fault_first, Grammar, IsPrefix, reading, shorter, spelled_view}
use Rattle.rmt_wire.proofs.Numbers.{pick, AreDigits, IsNumberFault, bad_byte, zero_spells, number_is_seen, drop_past, take_past, behind, behind_lines, behind_data, padded, length_line, end_feed, past_line}
use Rattle.rmt_wire.proofs.Texts.{ended_len, open_len, TextView, text_view, kept_text_few, kept_open}
use Rattle.std.proofs.lemmas.Int.Digits.{digits_push}

-- the grammar of replies to one who waits for this
abbrev pub reply_grammar : Wanted → Grammar PlainReply
reply_grammar wanted = record {
  Spells = λ text reply. SpellsReply text reply wanted;
  IsCause = ReplyIsCause wanted;
  HasRoom = λ bytes. IsWithin wanted → length (kept_of bytes) < READER_LIMIT;
  front = reply_front wanted;
}

-- an error's first line leads to its text
error_line_seen : (wanted : Wanted) (number text : List ℕ) (n : ℕ) → SpellsNumber number n
    → reply_front wanted (69 ∷ (number ++ line_feed ∷ text)) ≡ error_at n (length number + 2) text
unfolding reply_front error_front
error_line_seen wanted number text n s = simp (number_is_seen, drop_past, s)

-- a text that has ended is an error's
pub error_ended : (wanted : Wanted) (number line rest : List ℕ) (n : ℕ) → SpellsNumber number n → HasNoLineFeed line
    → reply_front wanted (69 ∷ (number ++ line_feed ∷ (line ++ line_feed ∷ rest))) ≡ Ok (Some (Error n (take 255 line), length number + 2 + length line + 1))
error_ended wanted number line rest n s h =
    let size = ended_len line rest h in
    error_line_seen wanted number (line ++ line_feed ∷ rest) n s ∙ grind (arith, nat_tests, size, length-append {A = ℕ}, take-append-le, take_min)

pub error_open : (wanted : Wanted) (number line : List ℕ) (n : ℕ) → SpellsNumber number n → HasNoLineFeed line
    → reply_front wanted (69 ∷ (number ++ line_feed ∷ line)) ≡ Ok None
error_open wanted number line n s h = error_line_seen wanted number line n s ∙ grind (arith, nat_tests, open_len line h)

data_line_seen : (most : ℕ) (number rest : List ℕ) (n : ℕ) → SpellsNumber number n → n ≤ most
    → reply_front (DataUpTo most) (65 ∷ (number ++ line_feed ∷ rest)) ≡ data_at n (length number + 2) rest
unfolding reply_front done_front
data_line_seen most number rest n s within =
    let wanted : ltb most n ≡ false = grind (arith, nat_tests) in
    simp (number_is_seen, drop_past, s, wanted)

data_ended : (given rest : List ℕ) (n len : ℕ) → length given ≡ n → data_at n len (given ++ rest) ≡ Ok (Some (Data given, len + n))
data_ended given rest n len long = grind (arith, nat_tests, length-append given rest, take_at)

-- a spelled reply, and what follows it
pub reply_seen : (wanted : Wanted) (text rest : List ℕ) (reply : PlainReply) → SpellsReply text reply wanted
    → reply_front wanted (text ++ rest) ≡ Ok (Some (reply, length text))
unfolding reply_front done_front
reply_seen Number text rest (Done n) s =
    let number = s.1 in
    rw s.2 (simp (append_assoc, number_is_seen, length-append, number) (ap (λ k. Ok (Some (Done n, k))) (omega arith)))
reply_seen (DataUpTo most) text rest (Done n) s = absurd s
reply_seen Number text rest (Data given) s = absurd s
reply_seen (DataUpTo most) text rest (Data given) s =
    rw (s.3, append_assoc) (data_line_seen most s.0 (given ++ rest) (length given) s.1 s.2 ∙ data_ended given rest (length given) (length s.0 + 2) refl
    ∙ ap (λ k. Ok (Some (Data given, k))) (sym (length_line 65 s.0 given)))
reply_seen wanted text rest (Error n said) s =
    rw (s.5, s.4) (ap (reply_front wanted) (sym (behind_lines 69 s.0 s.1 rest)) ∙ error_ended wanted s.0 s.1 rest n s.2 s.3
    ∙ ap (λ k. Ok (Some (Error n (take 255 s.1), k))) (omega (arith, length_line 69 s.0 (s.1 ++ line_feed ∷ []), length-append s.1 (line_feed ∷ []))))

-- what the bytes begin with is seen
abbrev IsSeen : Wanted → List ℕ → Type 0
IsSeen wanted bytes = Seen (reading (reply_grammar wanted)) bytes

-- bytes that begin with a spelling are seen so
is_spelled : (wanted : Wanted) (text rest : List ℕ) (reply : PlainReply) → SpellsReply text reply wanted → IsSeen wanted (text ++ rest)
is_spelled wanted text rest reply s = spelled_view (reply_grammar wanted) (reply_seen wanted) (text ++ rest) text rest reply refl s

-- after an error's first line its text is kept
pub kept_error : (number text : List ℕ) (n : ℕ) → SpellsNumber number n
    → kept_of (69 ∷ (number ++ line_feed ∷ text)) ≡ 69 ∷ (number ++ line_feed ∷ kept_text text)
unfolding kept_of
kept_error number text n s = simp (number_is_seen, drop_past, take_past, append_assoc, s)

-- no more is kept than there is
kept_behind_few : (seen : Parsed (ℕ × ℕ)) (bytes : List ℕ) → length (kept_behind seen bytes) ≤ length bytes
kept_behind_few seen bytes = grind (arith, length-append {A = ℕ}, length-take {A = ℕ}, kept_text_few, length-drop {A = ℕ})

kept_few : (bytes : List ℕ) → length (kept_of bytes) ≤ length bytes
unfolding kept_of
kept_few [] = omega arith
kept_few (letter ∷ bytes) = grind (arith, kept_behind_few (number_front Place.Line bytes) bytes)

-- an error, or a beginning of one
never_in_error : (wanted : Wanted) (digits : List ℕ) (byte : ℕ) → ¬ IsTooMuch wanted (69 ∷ digits) byte
never_in_error wanted digits byte m = grind arith

text_at_view : (wanted : Wanted) (number text : List ℕ) (n : ℕ) → SpellsNumber number n → TextView text → IsSeen wanted (69 ∷ (number ++ line_feed ∷ text))
text_at_view wanted number text n s v =
    let few = s.few in
    ⊎_elim
    (λ h.
    let kept = ap (length {A = ℕ}) (kept_error number text n s) in
    subst (View (reading (reply_grammar wanted)) (69 ∷ (number ++ line_feed ∷ text))) (sym (error_open wanted number text n s h)) (
      (line_feed ∷ [], Error n (take 255 text), (number, text, s, h, refl, sym (behind 69 number text (line_feed ∷ [])))),
      λ within. omega (arith, kept, ap (length {A = ℕ}) (kept_open text h), length_line 69 number (kept_text text), length-take 255 text),
    ))
    (λ w. subst (IsSeen wanted) (sym (ap (λ t. 69 ∷ (number ++ line_feed ∷ t)) w.3 ∙ behind_lines 69 number w.0 w.1))
    (is_spelled wanted _ w.1 (Error n (take 255 w.0)) (number, w.0, s, w.2, refl, refl)))
    v

error_view : (wanted : Wanted) (bytes : List ℕ) → IsSeen wanted (69 ∷ bytes)
unfolding reply_front error_front
error_view wanted bytes = past_line (reply_grammar wanted) Place.Line (λ t. 69 ∷ t) _ (λ a b. refl) (λ t. refl)
    (λ digits few within. omega (arith, kept_few (69 ∷ digits))) (λ number n s w. (line_feed ∷ line_feed ∷ [], Error n [], (number, [], s, tt, refl, refl)))
    (bad_byte Place.Line (ReplyIsCause wanted) (λ t. 69 ∷ t) (λ n. refl)
    (λ digits byte each few. ((digits, each, few, inr refl), never_in_error wanted digits byte)))
    end_feed bytes (λ number rest n s w. text_at_view wanted number rest n s (text_view rest))

number_reply_view : (bytes : List ℕ) → IsSeen Number (65 ∷ bytes)
unfolding reply_front done_front
number_reply_view bytes = past_line (reply_grammar Number) Place.Line (λ t. 65 ∷ t) _ (λ a b. refl) (λ t. refl)
    (λ digits few within. omega (arith, kept_few (65 ∷ digits))) (λ number n s w. (line_feed ∷ [], Done n, (number, s, refl)))
    (bad_byte Place.Line (ReplyIsCause Number) (λ t. 65 ∷ t) (λ n. refl) (λ digits byte each few. ((digits, each, few, inl refl), λ m. m))) end_feed bytes
    (λ number rest n s w. subst (IsSeen Number) (sym (behind 65 number [] rest)) (is_spelled Number _ rest (Done n) (number, s, refl)))

last_digit : (digits : List ℕ) (byte : ℕ) → AllDigits 10 (digits ++ byte ∷ []) → digit_value byte < 10
last_digit [] byte each = each.0
last_digit (d ∷ digits) byte each = last_digit digits byte each.1

-- why a byte cannot follow the digits of a number of bytes
count_cause : (most : ℕ) (digits : List ℕ) (byte : ℕ) (fault : WireFault) → AreDigits (Place.Data most) 0 0 digits
    → IsNumberFault (Place.Data most) 0 digits byte fault → ReplyIsCause (DataUpTo most) (65 ∷ digits) byte fault
count_cause most digits byte fault d h = grind (arith, nat_tests, last_digit, digits_push 10 digits byte d.each)

-- data, or a beginning of them
some_data : (most : ℕ) (number given : List ℕ) (n : ℕ) → SpellsNumber number n → n ≤ most → length given ≡ n
    → SpellsReply (65 ∷ (number ++ line_feed ∷ given)) (Data given) (DataUpTo most)
some_data most number given n s within long = (number, subst (SpellsNumber number) (sym long) s, subst (λ k. k ≤ most) (sym long) within, refl)

data_open : (most : ℕ) (number rest : List ℕ) (n : ℕ) → SpellsNumber number n → n ≤ most → length rest ≤ n
    → IsPrefix (reply_grammar (DataUpTo most)) (65 ∷ (number ++ line_feed ∷ rest))
data_open most number rest n s within less =
    let f = padded rest n less in
    (f.0, Data (rest ++ f.0), rw (← behind 65 number rest f.0) (some_data most number (rest ++ f.0) n s within f.1))

data_reply_view : (most : ℕ) (bytes : List ℕ) → IsSeen (DataUpTo most) (65 ∷ bytes)
unfolding reply_front done_front
data_reply_view most bytes = past_line (reply_grammar (DataUpTo most)) (Place.Data most) (λ t. 65 ∷ t) _ (λ a b. refl) (λ t. refl)
    (λ digits few within. omega (arith, kept_few (65 ∷ digits)))
    (λ number n s w. shorter (reply_grammar (DataUpTo most)) (65 ∷ number) (line_feed ∷ [])
    (data_open most number [] n s (grind (arith, nat_tests)) (omega arith)))
    (count_cause most) end_feed bytes
    (λ number rest n s w.
    let whole : List ℕ = 65 ∷ (number ++ line_feed ∷ rest) in
    let wanted : n ≤ most = grind (arith, nat_tests) in
    let few = s.few in
    ⊎_elim
    (λ (short : length rest < n).
    let none : data_at n (length number + 2) rest ≡ Ok None = grind (arith, nat_tests) in
    subst (View (reading (reply_grammar (DataUpTo most))) whole) (sym (data_line_seen most number rest n s wanted ∙ none))
    (data_open most number rest n s wanted (omega arith), λ within. omega (arith, kept_few whole, length_line 65 number rest)))
    (λ (enough : n ≤ length rest). subst (IsSeen (DataUpTo most)) (sym (behind_data 65 number n rest))
    (is_spelled (DataUpTo most) _ (drop n rest) (Data (take n rest)) (some_data most number (take n rest) n s wanted (length-take-le n rest enough))))
    (cases_lt (length rest) n))

done_view : (wanted : Wanted) (bytes : List ℕ) → IsSeen wanted (65 ∷ bytes)
done_view Number bytes = number_reply_view bytes
done_view (DataUpTo most) bytes = data_reply_view most bytes

nothing_seen : (wanted : Wanted) → IsPrefix (reply_grammar wanted) [] × (IsWithin wanted → length (kept_of []) < READER_LIMIT)
nothing_seen wanted = ((69 ∷ 48 ∷ line_feed ∷ line_feed ∷ [], Error 0 [], (48 ∷ [], [], zero_spells, tt, refl, refl)), λ within. omega (arith, kept_few []))

pub reply_view : (wanted : Wanted) (bytes : List ℕ) → Seen (reading (reply_grammar wanted)) bytes
unfolding reply_front
reply_view wanted [] = nothing_seen wanted
reply_view wanted (letter ∷ bytes) =
    let P : ℕ → Type 0 = λ l. IsSeen wanted (l ∷ bytes) in
    pick letter 65 P (done_view wanted bytes) (λ not_a.
    pick letter 69 P (error_view wanted bytes) (λ not_e.
    fault_first (reading (reply_grammar wanted)) letter bytes NotAReply (nothing_seen wanted) refl (λ more. rw (not_a, not_e) refl)))
