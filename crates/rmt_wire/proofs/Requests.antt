-- The grammar of requests: how the front of bytes is read.
use Rattle.rmt_wire.proofs.Words.{List, None, Ok, Some, [], ap, append_assoc, arith, drop, false, if◌then◌else◌, inl, inr, length, length-append, ltb, refl, subst, sym, take, true, ℕ, ⊎_elim, ◌++◌, ◌+◌, ◌<◌, ◌∙◌, ◌∷◌, ◌≡◌, ◌≤◌, ◌⊎◌, cases_lt, nat_tests, length-take-le, take_at, nat_lt, digits_value, SpellsNumber, line_feed, IsLine, space, Parsed, number_front, after, ends_number, PlainRequest, SpellsRequest, SpellsMode, WriteDropped, Open, Close, Write, Read, Op, IsCause, written_at, line_from, line_front, front_of, close_head, count_head, head_of, letter_head, mode_head, op_head, open_head, read_head, write_head, dropped_if_long, taken_of, taken_at, dropped_line, UnknownCommand, RECORD_LIMIT, READER_LIMIT, Place}
use Rattle.rmt_wire.proofs.Align.{no_feed_append, digits_no_feed}
use Rattle.rmt_wire.proofs.Grammars.{View, Seen, fault_first, past, Grammar, IsPrefix, reading, shorter, spelled_view}
use Rattle.rmt_wire.proofs.Numbers.{pick, after_after, bad_byte, numbers, number_view, zero_spells, digits_spell, number_is_seen, drop_past, behind, behind_lines, behind_data, padded, length_line, end_feed, past_number, past_line}
use Rattle.rmt_wire.proofs.Lines.{AreOfLine, line_skips, lines, line_view, line_is_seen}

-- the grammar of requests
abbrev pub request_grammar : Grammar PlainRequest
request_grammar = record { Spells = SpellsRequest; IsCause = IsCause; HasRoom = λ bytes. taken_of bytes < READER_LIMIT; front = front_of }

-- the first line of an operation or an open leads to its second line
count_whole : (first : List ℕ) (op : ℕ) → SpellsNumber first op → (t : List ℕ)
    → front_of (73 ∷ (first ++ line_feed ∷ t)) ≡ after (number_front Place.Line t) (λ count. Ok (Some (Op op count.0, length first + count.1 + 3)))
unfolding front_of head_of letter_head op_head count_head
count_whole first op s t = simp (number_is_seen, drop_past, after_after, s)

mode_whole : (device : List ℕ) → IsLine device → (t : List ℕ) → front_of (79 ∷ (device ++ line_feed ∷ t)) ≡ after (number_front Place.Mode t)
    (λ mode. after (line_front t) (λ len. Ok (Some (Open device mode.0, length device + len + 3))))
unfolding front_of head_of letter_head open_head mode_head
mode_whole device l t = simp (line_is_seen, drop_past, after_after, take_at, l)

-- the number of a mode line is seen in front of all that follows
mode_is_seen : (line rest : List ℕ) (mode : ℕ) → SpellsMode line mode
    → (digits : ℕ) × (number_front Place.Mode (line ++ line_feed ∷ rest) ≡ Ok (Some (mode, digits)))
mode_is_seen line rest mode s =
    ⊎_elim (λ n. (length line, number_is_seen Place.Mode line mode line_feed rest n refl refl))
    (λ w. (length w.0, rw (w.3, append_assoc) (number_is_seen Place.Mode w.0 mode space (w.1 ++ line_feed ∷ rest) w.2 refl refl))) s.1

-- a write's line leads to its data
pub write_seen : (number rest : List ℕ) (n : ℕ) → SpellsNumber number n
    → front_of (87 ∷ (number ++ line_feed ∷ rest)) ≡ written_at n (length number + 2) (87 ∷ (number ++ line_feed ∷ rest))
unfolding front_of head_of letter_head write_head
write_seen number rest n s = simp (number_is_seen, s)

drop_line : (letter : ℕ) (number more : List ℕ) → drop (length number + 2) (letter ∷ (number ++ line_feed ∷ more)) ≡ more
drop_line letter number more = grind (arith, drop_past)

-- which are the write's once as many are there
write_all : (number given rest : List ℕ) (n : ℕ) → SpellsNumber number n → length given ≡ n → front_of (87 ∷ (number ++ line_feed ∷ (given ++ rest)))
    ≡ (if nat_lt RECORD_LIMIT n then Ok (Some (WriteDropped n, length number + 2 + n)) else Ok (Some (Write given, length number + 2 + n)))
write_all number given rest n s long = write_seen number (given ++ rest) n s ∙ grind (arith, nat_tests, length-append {A = ℕ}, drop_line, take_at)

pub write_less : (number some : List ℕ) (n : ℕ) → SpellsNumber number n → length some < n → front_of (87 ∷ (number ++ line_feed ∷ some)) ≡ Ok None
write_less number some n s short = write_seen number some n s ∙ grind (arith, nat_tests, length-append {A = ℕ})

-- a spelled request, and what follows it
pub request_seen : (text rest : List ℕ) (request : PlainRequest) → SpellsRequest text request → front_of (text ++ rest) ≡ Ok (Some (request, length text))
unfolding front_of head_of letter_head close_head read_head
request_seen text rest (Open device mode) s =
    let m = (mode_is_seen s.0 rest mode s.2).1 in
    let d = s.1 in
    let l = s.2.0 in
    rw s.3 (simp (append_assoc, mode_whole, m, line_is_seen, length-append, d, l) (ap (λ n. Ok (Some (Open device mode, n))) (omega arith)))
request_seen text rest Close s =
    let l = s.1 in
    rw s.2 (simp (append_assoc, line_is_seen, length-append, l) (ap (λ n. Ok (Some (Close, n))) (omega arith)))
request_seen text rest (Write written) s =
    let few : ltb RECORD_LIMIT (length written) ≡ false = grind (arith, nat_tests) in
    rw (s.3, append_assoc) (write_all s.0 written rest (length written) s.1 refl
    ∙ rw few (ap (λ n. Ok (Some (Write written, n))) (omega (arith, length_line 87 s.0 written))))
request_seen text rest (WriteDropped count) s =
    let many : ltb RECORD_LIMIT count ≡ true = grind (arith, nat_tests) in
    rw (s.5, append_assoc) (write_all s.0 s.1 rest count s.2 s.4
    ∙ rw many (ap (λ n. Ok (Some (WriteDropped count, n))) (omega (arith, length_line 87 s.0 s.1))))
request_seen text rest (Read count) s =
    let number = s.1 in
    rw s.2 (simp (append_assoc, number_is_seen, length-append, number) (ap (λ n. Ok (Some (Read count, n))) (omega arith)))
request_seen text rest (Op op count) s =
    let first = s.2 in
    let second = s.3 in
    rw s.4 (simp (append_assoc, count_whole, number_is_seen, length-append, first, second) (ap (λ n. Ok (Some (Op op count, n))) (omega arith)))

-- what the bytes begin with is seen
abbrev IsSeen : List ℕ → Type 0
IsSeen bytes = Seen (reading request_grammar) bytes

-- bytes that begin with a spelling are seen so
is_spelled : (text rest : List ℕ) (request : PlainRequest) → SpellsRequest text request → IsSeen (text ++ rest)
is_spelled text rest request s = spelled_view request_grammar request_seen (text ++ rest) text rest request refl s

-- few bytes leave room
taken_seen : (letter : ℕ) (bytes : List ℕ) (seen : Parsed (ℕ × ℕ)) → View (numbers Place.Line 0 0) bytes seen → length bytes ≤ 1000
    → taken_at (dropped_if_long seen) (letter ∷ bytes) < READER_LIMIT
taken_seen letter bytes seen v few = grind (arith, nat_tests)

taken_few : (bytes : List ℕ) → length bytes ≤ 1000 → taken_of bytes < READER_LIMIT
unfolding dropped_line
taken_few [] few = omega arith
taken_few (letter ∷ bytes) few = grind (arith, taken_seen letter bytes (number_front Place.Line bytes) (number_view Place.Line bytes))

read_view : (bytes : List ℕ) → IsSeen (82 ∷ bytes)
unfolding front_of head_of letter_head read_head
read_view bytes = past_line request_grammar Place.Line (λ t. 82 ∷ t) _ (λ a b. refl) (λ t. after_after (number_front Place.Line t) _ _)
    (λ digits few. taken_few (82 ∷ digits) (omega arith)) (λ number n s wanted. (line_feed ∷ [], Read n, (number, s, refl)))
    (bad_byte Place.Line IsCause (λ t. 82 ∷ t) (λ n. refl) (λ digits byte each few. (digits, each, few, inr (inl refl)))) end_feed bytes
    (λ number rest n s wanted. subst IsSeen (sym (behind 82 number [] rest)) (is_spelled _ rest (Read n) (number, s, refl)))

-- a number and as many bytes are a write
some_write : (number written : List ℕ) (n : ℕ) → SpellsNumber number n → length written ≡ n
    → (request : PlainRequest) × SpellsRequest (87 ∷ (number ++ line_feed ∷ written)) request
some_write number written n s long =
    ⊎_elim
    (λ (great : RECORD_LIMIT < n). (WriteDropped n, (number, written, s, great, long, refl)))
    (λ (small : n ≤ RECORD_LIMIT). (Write written, (number, (rw long s), (rw long small), refl)))
    (cases_lt RECORD_LIMIT n)

-- fewer are a beginning of one
write_open : (number rest : List ℕ) (n : ℕ) → SpellsNumber number n → length rest ≤ n → IsPrefix request_grammar (87 ∷ (number ++ line_feed ∷ rest))
write_open number rest n s less =
    let f = padded rest n less in
    let w = some_write number (rest ++ f.0) n s f.1 in
    (f.0, w.0, rw (← behind 87 number rest f.0) w.1)

-- for which there is room
taken_write : (number rest : List ℕ) (n : ℕ) → SpellsNumber number n → length rest < n → taken_of (87 ∷ (number ++ line_feed ∷ rest)) < READER_LIMIT
unfolding dropped_line
taken_write number rest n s short =
    let seen = number_is_seen Place.Line number n line_feed rest s refl refl in
    grind (arith, nat_tests, seen, length_line 87 number rest)

write_view : (bytes : List ℕ) → IsSeen (87 ∷ bytes)
unfolding front_of head_of letter_head write_head
write_view bytes = past_line request_grammar Place.Line (λ t. 87 ∷ t) _ (λ a b. refl) (λ t. after_after (number_front Place.Line t) _ _)
    (λ digits few. taken_few (87 ∷ digits) (omega arith))
    (λ number n s wanted. shorter request_grammar (87 ∷ number) (line_feed ∷ []) (write_open number [] n s (omega arith)))
    (bad_byte Place.Line IsCause (λ t. 87 ∷ t) (λ n. refl) (λ digits byte each few. (digits, each, few, inl refl))) end_feed bytes
    (λ number rest n s wanted. ⊎_elim
    (λ (short : length rest < n). subst (View (reading request_grammar) (87 ∷ (number ++ line_feed ∷ rest))) (sym (write_less number rest n s short))
    (write_open number rest n s (omega arith), taken_write number rest n s short))
    (λ (enough : n ≤ length rest).
    let w = some_write number (take n rest) n s (length-take-le n rest enough) in
    subst IsSeen (sym (behind_data 87 number n rest)) (is_spelled _ (drop n rest) w.0 w.1))
    (cases_lt (length rest) n))

count_view : (first rest : List ℕ) (op : ℕ) → SpellsNumber first op → IsSeen (73 ∷ (first ++ line_feed ∷ rest))
count_view first rest op s =
    let few = s.few in
    past_line request_grammar Place.Line (λ t. 73 ∷ (first ++ line_feed ∷ t)) _ (behind 73 first) (count_whole first op s)
    (λ digits short. taken_few (73 ∷ (first ++ line_feed ∷ digits)) (omega (arith, length_line 73 first digits)))
    (λ number n t wanted. (line_feed ∷ [], Op op n, (first, number, s, t, sym (behind 73 first number (line_feed ∷ [])))))
    (bad_byte Place.Line IsCause (λ t. 73 ∷ (first ++ line_feed ∷ t)) (λ n. refl)
    (λ digits byte each short. (digits, each, short, inr (inr (inr (inl (first, op, s, refl))))))) end_feed rest
    (λ number later n t wanted. subst IsSeen (sym (behind_lines 73 first number later)) (is_spelled _ later (Op op n) (first, number, s, t, refl)))

op_view : (bytes : List ℕ) → IsSeen (73 ∷ bytes)
unfolding front_of head_of letter_head op_head
op_view bytes = past_line request_grammar Place.Line (λ t. 73 ∷ t) _ (λ a b. refl) (λ t. after_after (number_front Place.Line t) _ _)
    (λ digits few. taken_few (73 ∷ digits) (omega arith))
    (λ number n s wanted. (line_feed ∷ 48 ∷ line_feed ∷ [], Op n 0, (number, 48 ∷ [], s, zero_spells, refl)))
    (bad_byte Place.Line IsCause (λ t. 73 ∷ t) (λ n. refl) (λ digits byte each few. (digits, each, few, inr (inr (inl refl)))))
    end_feed bytes (λ number rest n s wanted. count_view number rest n s)

line_of : (line : List ℕ) → AreOfLine 0 line → IsLine line
line_of line l = let few = l.few in (omega arith, l.each)

close_view : (bytes : List ℕ) → IsSeen (67 ∷ bytes)
unfolding front_of head_of letter_head close_head
close_view bytes = past (lines 0) (reading request_grammar) (λ t. 67 ∷ t) _ (λ a b. refl) (λ t. after_after (line_front t) _ _)
    (λ line l. ((line_feed ∷ [], Close, (line, line_of line l, refl)), (let few = l.few in taken_few (67 ∷ line) (omega arith))))
    (λ line byte fault l h. subst (IsCause (67 ∷ line) byte) (sym h.0) ((line, (let e = h.1 in omega arith), l.each, inr (inl refl)), h.2))
    bytes (line_view 0 bytes (omega arith)) (λ n d. subst (λ t. IsSeen (67 ∷ t)) (sym d.split) (subst IsSeen (sym (behind 67 d.line [] d.rest))
    (is_spelled _ d.rest Close (d.line, line_of d.line d.are, refl))))

-- a number alone is a mode line
number_mode : (number : List ℕ) (n : ℕ) → SpellsNumber number n → SpellsMode number n
number_mode number n s = let few = s.few in ((omega arith, digits_no_feed number s.digits.1), inl s)

-- a mode line leaves room
mode_room : (device line : List ℕ) → IsLine device → length line ≤ 255 → taken_of (79 ∷ (device ++ line_feed ∷ line)) < READER_LIMIT
mode_room device line l few = let short = l.0 in taken_few (79 ∷ (device ++ line_feed ∷ line)) (omega (arith, length_line 79 device line))

-- a mode line that has ended
mode_spelled : (device line rest : List ℕ) (mode : ℕ) → IsLine device → SpellsMode line mode → IsSeen (79 ∷ (device ++ line_feed ∷ (line ++ line_feed ∷ rest)))
mode_spelled device line rest mode l s =
    subst IsSeen (sym (behind_lines 79 device line rest)) (is_spelled _ rest (Open device mode) (line, l, s, refl))

-- a mode line after its number and a space
module _ (device number : List ℕ) (mode : ℕ) (l : IsLine device) (s : SpellsNumber number mode) where
  has_spaced : (t : List ℕ) → AreOfLine (length number + 1) t → SpellsMode (number ++ space ∷ t) mode
  has_spaced t a =
      let few = a.few in (
        (omega (arith, length-append number (space ∷ t)), no_feed_append number (space ∷ t) (digits_no_feed number s.digits.1) (omega arith, a.each)),
        inr (number, t, s, refl),
      )

  spaced_whole : (t : List ℕ) → front_of (79 ∷ (device ++ line_feed ∷ (number ++ space ∷ t)))
      ≡ after (line_from (length number + 1) t) (λ len. Ok (Some (Open device mode, length device + len + 3)))
  spaced_whole t =
      let few = s.few in
      let skipped : AreOfLine 0 (number ++ space ∷ []) = record {
        each = no_feed_append number (space ∷ []) (digits_no_feed number s.digits.1) (omega arith, tt);
        few = omega (arith, length-append number (space ∷ []));
      } in
      let skips : line_from 0 (number ++ space ∷ t) ≡ line_from (length number + 1) t =
      grind (arith, append_assoc, length-append, line_skips 0 (number ++ space ∷ []) t skipped) in
      mode_whole device l (number ++ space ∷ t) ∙ simp (number_is_seen, skips, s)

  spaced_view : (rest : List ℕ) → IsSeen (79 ∷ (device ++ line_feed ∷ (number ++ space ∷ rest)))
  spaced_view rest =
      let few = s.few in
      past (lines (length number + 1)) (reading request_grammar) (λ t. 79 ∷ (device ++ line_feed ∷ (number ++ space ∷ t))) _
      (λ a b. ap (λ t. 79 ∷ (device ++ line_feed ∷ t)) (sym (append_assoc number (space ∷ a) b)) ∙ behind 79 device (number ++ space ∷ a) b) spaced_whole
      (λ t a. (
        (line_feed ∷ [], Open device mode, (number ++ space ∷ t, l, has_spaced t a, sym (behind 79 device (number ++ space ∷ t) (line_feed ∷ [])))),
        mode_room device (number ++ space ∷ t) l (has_spaced t a).0.0,
      ))
      (λ t byte fault a h. subst (IsCause (79 ∷ (device ++ line_feed ∷ (number ++ space ∷ t))) byte) (sym h.0) (
        (number ++ space ∷ t, (let full = h.1 in omega (arith, length-append number (space ∷ t))), (has_spaced t a).0.1, inr (inr (device, l, refl))),
        h.2,
      ))
      rest (line_view (length number + 1) rest (omega arith))
      (λ n d. subst (λ t. IsSeen (79 ∷ (device ++ line_feed ∷ t)))
      (append_assoc number (space ∷ d.line) (line_feed ∷ d.rest) ∙ ap (λ t. number ++ space ∷ t) (sym d.split))
      (mode_spelled device (number ++ space ∷ d.line) d.rest mode l (has_spaced d.line d.are)))

-- a line feed or a space ends the number of a mode line
end_mode : (stop : ℕ) → ends_number Place.Mode stop ≡ true → (stop ≡ line_feed) ⊎ (stop ≡ space)
end_mode stop ends = grind (arith, nat_tests)

mode_view : (device rest : List ℕ) → IsLine device → IsSeen (79 ∷ (device ++ line_feed ∷ rest))
mode_view device rest l =
    past_number request_grammar Place.Mode (λ t. 79 ∷ (device ++ line_feed ∷ t)) _ (behind 79 device) (mode_whole device l)
    (λ digits few. mode_room device digits l (omega arith))
    (λ number n s wanted. (line_feed ∷ [], Open device n, (number, l, number_mode number n s, sym (behind 79 device number (line_feed ∷ [])))))
    (bad_byte Place.Mode IsCause (λ t. 79 ∷ (device ++ line_feed ∷ t)) (λ n. refl)
    (λ digits byte each few. (digits, each, few, inr (inr (inr (inr (device, l, refl))))))) rest
    (λ p d.
    let s = digits_spell d.digits d.are d.some in
    let n : ℕ = digits_value 10 d.digits in
    subst (λ t. IsSeen (79 ∷ (device ++ line_feed ∷ t))) (sym d.split)
    (⊎_elim
    (λ feed. rw feed (mode_spelled device d.digits d.rest n l (number_mode d.digits n s)))
    (λ blank. rw blank (spaced_view device d.digits n l s d.rest))
    (end_mode d.stop d.ends)))

open_view : (bytes : List ℕ) → IsSeen (79 ∷ bytes)
unfolding front_of head_of letter_head open_head
open_view bytes = past (lines 0) (reading request_grammar) (λ t. 79 ∷ t) _ (λ a b. refl) (λ t. after_after (line_front t) _ _)
    (λ line l. (
      (line_feed ∷ 48 ∷ line_feed ∷ [], Open line 0, (48 ∷ [], line_of line l, number_mode (48 ∷ []) 0 zero_spells, refl)),
      (let few = l.few in taken_few (79 ∷ line) (omega arith)),
    ))
    (λ line byte fault l h. subst (IsCause (79 ∷ line) byte) (sym h.0) ((line, (let e = h.1 in omega arith), l.each, inl refl), h.2))
    bytes (line_view 0 bytes (omega arith)) (λ n d. subst (λ t. IsSeen (79 ∷ t)) (sym d.split) (mode_view d.line d.rest (line_of d.line d.are)))

nothing_seen : IsPrefix request_grammar [] × (taken_of [] < READER_LIMIT)
nothing_seen = ((67 ∷ line_feed ∷ [], Close, ([], (omega arith, tt), refl)), taken_few [] (omega arith))

pub request_view : (bytes : List ℕ) → Seen (reading request_grammar) bytes
unfolding front_of head_of letter_head
request_view [] = nothing_seen
request_view (letter ∷ bytes) =
    let P : ℕ → Type 0 = λ l. IsSeen (l ∷ bytes) in
    pick letter 79 P (open_view bytes) (λ o.
    pick letter 67 P (close_view bytes) (λ c.
    pick letter 87 P (write_view bytes) (λ w.
    pick letter 82 P (read_view bytes) (λ r.
    pick letter 73 P (op_view bytes) (λ i.
    fault_first (reading request_grammar) letter bytes UnknownCommand nothing_seen refl (λ more. rw (o, c, w, r, i) refl))))))
