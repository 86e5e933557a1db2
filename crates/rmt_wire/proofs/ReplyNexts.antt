-- One call of a reader of replies.
use Rattle.rmt_wire.proofs.Words.{Bool, Err, List, None, Ok, Option, Result, Some, [], ap, append-nil, append_assoc, arith, drop, eqb, false, get_or, inl, inr, is_some, length, length-append, length-drop, min, refl, subst, suc, sym, take, true, ℕ, ⊎_elim, ◌++◌, ◌+◌, ◌-◌, ◌<◌, ◌∙◌, ◌∷◌, ◌≡◌, ◌≢◌, ◌≤◌, ◌⊎◌, take-add, nat_tests, drop-drop, drop_at, take_rest, line_feed, HasNoLineFeed, Parsed, number_front, PlainReply, Wanted, Error, ReplyParsesAs, wanted_after, text_len, kept_text, kept_behind, reply_front, kept_of, reply_held, IsWithin, kept_while, ReplyUnread, reply_taken_of, ReplyIsNext, ReplyStaysFaulty, plain_reply_front_result, reply_held_after, IsErrorText, error_bytes, ReplyContinues, ReplyLeavesRoom, plain_reply, lent_reply, plain_wanted_if_some, WireFault, TooMuchData, READER_LIMIT, Place, Reply}
use Rattle.rmt_wire.proofs.Align.{no_cons}
use Rattle.rmt_wire.proofs.Grammars.{View, faulty_always, room_of}
use Rattle.rmt_wire.proofs.Numbers.{pick, numbers, number_view, digits_spell, behind, behind_lines, length_line, end_feed}
use Rattle.rmt_wire.proofs.Texts.{TextView, text_view, take_no_feed, take_twice, kept_open, kept_ended, kept_again}
use Rattle.rmt_wire.proofs.Given.{at_front}
use Rattle.rmt_wire.proofs.Nexts.{taken_out, at_end}
use Rattle.rmt_wire.proofs.Replies.{reply_grammar, error_ended, error_open, kept_error, reply_view}
use Rattle.rmt_wire.proofs.ReplyGiving.{gives}
use Rattle.rmt_wire.specs.declared.reply.wanted.Wanted as declared

-- the bytes are an error's, as far as its text at least
abbrev HasText : List ℕ → Type 0
HasText bytes = (number text : List ℕ) × IsErrorText bytes number text

text_after : (bytes : List ℕ) (seen : Parsed (ℕ × ℕ)) → View (numbers Place.Line 0 0) bytes seen
    → HasText (69 ∷ bytes) ⊎ (69 ∷ kept_behind seen bytes ≡ 69 ∷ bytes)
text_after bytes (Ok (Some p)) v = inl (
  v.digits,
  v.rest,
  record {
    value = p.0;
    spelled = rw v.value (digits_spell v.digits v.are v.some);
    split = ap (λ l. 69 ∷ l) (v.split ∙ ap (λ x. v.digits ++ x ∷ v.rest) (end_feed v.stop v.ends));
  },
)
text_after bytes other v = inr refl

-- or all of them are kept
text_or_all : (bytes : List ℕ) → HasText bytes ⊎ (kept_of bytes ≡ bytes)
unfolding kept_of
text_or_all [] = inr refl
text_or_all (letter ∷ bytes) = pick letter 69 (λ l. HasText (l ∷ bytes) ⊎ (kept_of (l ∷ bytes) ≡ l ∷ bytes))
    (text_after bytes (number_front Place.Line bytes) (number_view Place.Line bytes)) (λ other. inr (rw other refl))

-- what is kept of an error
kept_is : (bytes number text : List ℕ) → IsErrorText bytes number text → kept_of bytes ≡ error_bytes number (kept_text text)
kept_is bytes number text t = ap kept_of t.split ∙ kept_error number text t.value t.spelled

pub text_begun : (bytes number line : List ℕ) → IsErrorText bytes number line → HasNoLineFeed line → kept_of bytes ≡ error_bytes number (take 255 line)
text_begun bytes number line t h = kept_is bytes number line t ∙ ap (error_bytes number) (kept_open line h)

pub text_whole : (bytes number line rest : List ℕ) → IsErrorText bytes number (line ++ line_feed ∷ rest) → HasNoLineFeed line
    → kept_of bytes ≡ error_bytes number (take 255 line ++ line_feed ∷ rest)
text_whole bytes number line rest t h = kept_is bytes number (line ++ line_feed ∷ rest) t ∙ ap (error_bytes number) (kept_ended line rest h)

pub other_texts : (bytes : List ℕ) → ((number text : List ℕ) → IsErrorText bytes number text → ⊥) → kept_of bytes ≡ bytes
other_texts bytes none = ⊎_elim (λ t. absurd (none t.0 t.1 t.2)) (λ k. k) (text_or_all bytes)

-- what was kept is kept again, with more after it
pub pushed : (bytes piece : List ℕ) → kept_of (kept_of bytes ++ piece) ≡ kept_of (bytes ++ piece)
pushed bytes piece =
    ⊎_elim
    (λ t.
    let again : (text : List ℕ) → kept_of (error_bytes t.0 text ++ piece) ≡ error_bytes t.0 (kept_text (text ++ piece)) =
    λ text. ap kept_of (sym (behind 69 t.0 text piece)) ∙ kept_error t.0 (text ++ piece) t.2.value t.2.spelled in
    rw (kept_is bytes t.0 t.1 t.2, t.2.split) (again (kept_text t.1) ∙ ap (error_bytes t.0) (kept_again t.1 piece) ∙ sym (again t.1)))
    (λ k. ap (λ l. kept_of (l ++ piece)) k)
    (text_or_all bytes)

-- What is seen of the bytes where this is seen of those that are kept
abbrev pub SameSeen : Wanted → List ℕ → Parsed (PlainReply × ℕ) → Type 0
SameSeen wanted bytes (Ok None) = reply_front wanted bytes ≡ Ok None
SameSeen wanted bytes (Ok (Some p)) = (len : ℕ) × (reply_front wanted bytes ≡ Ok (Some (p.0, len))) × (drop p.1 (kept_of bytes) ≡ drop len bytes)
SameSeen wanted bytes (Err fault) = reply_front wanted bytes ≡ Err fault

same_all : (wanted : Wanted) (bytes : List ℕ) (seen : Parsed (PlainReply × ℕ)) → kept_of bytes ≡ bytes → reply_front wanted bytes ≡ seen
    → SameSeen wanted bytes seen
same_all wanted bytes (Ok (Some p)) k e = (p.1, e, ap (drop p.1) k)
same_all wanted bytes other k e = e

-- after an error that has ended
behind_error : (number line rest : List ℕ) → drop (length number + 2 + length line + 1) (error_bytes number (line ++ line_feed ∷ rest)) ≡ rest
behind_error number line rest = ap (drop (length number + 2 + length line + 1)) (behind_lines 69 number line rest)
    ∙ drop_at (error_bytes number (line ++ line_feed ∷ [])) rest _ (omega (arith, length_line 69 number (line ++ line_feed ∷ []), length-append {A = ℕ}))

same_text : (wanted : Wanted) (bytes number text : List ℕ) → IsErrorText bytes number text → TextView text
    → SameSeen wanted bytes (reply_front wanted (kept_of bytes))
same_text wanted bytes number text t v =
    ⊎_elim
    (λ h. subst (SameSeen wanted bytes) (sym (ap (reply_front wanted) (text_begun bytes number text t h)
    ∙ error_open wanted number (take 255 text) t.value t.spelled (take_no_feed 255 text h)))
    (ap (reply_front wanted) t.split ∙ error_open wanted number text t.value t.spelled h))
    (λ w.
    let line = w.0 in
    let len : List ℕ → ℕ = λ l. length number + 2 + length l + 1 in
    let split : bytes ≡ error_bytes number (line ++ line_feed ∷ w.1) = t.split ∙ ap (error_bytes number) w.3 in
    let kept = text_whole bytes number line w.1 (record { value = t.value; spelled = t.spelled; split = split }) w.2 in
    let seen : reply_front wanted (kept_of bytes) ≡ Ok (Some (Error t.value (take 255 line), len (take 255 line))) =
    ap (reply_front wanted) kept ∙ error_ended wanted number (take 255 line) w.1 t.value t.spelled (take_no_feed 255 line w.2)
    ∙ ap (λ l. Ok (Some (Error t.value l, len (take 255 line)))) (take_twice 255 line) in
    subst (SameSeen wanted bytes) (sym seen) (
      len line,
      ap (reply_front wanted) split ∙ error_ended wanted number line w.1 t.value t.spelled w.2,
      ap (drop (len (take 255 line))) kept ∙ behind_error number (take 255 line) w.1 ∙ sym (ap (drop (len line)) split ∙ behind_error number line w.1),
    ))
    v

pub same_seen : (wanted : Wanted) (bytes : List ℕ) (seen : Parsed (PlainReply × ℕ)) → reply_front wanted (kept_of bytes) ≡ seen → SameSeen wanted bytes seen
same_seen wanted bytes seen e =
    subst (SameSeen wanted bytes) e
    (⊎_elim (λ t. same_text wanted bytes t.0 t.1 t.2 (text_view t.1))
    (λ k. same_all wanted bytes (reply_front wanted (kept_of bytes)) k (ap (reply_front wanted) (sym k))) (text_or_all bytes))

-- a reader that waits, and what is found in the bytes that it keeps
module _ (old : Wanted) (kept : List ℕ) where
  -- what is given of the bytes that were pushed, and what the reader is then
  abbrev Given : Result (Option (Reply × ℕ)) WireFault → List ℕ → Option Wanted → Type 0
  Given found bytes wanted = (rest : List ℕ) × ReplyUnread (reply_held_after found (reply_held (Some old) kept))
      (wanted_after wanted (plain_reply_front_result found)) rest
      × ReplyParsesAs wanted bytes (plain_reply_front_result found) rest

  given : (found : Result (Option (Reply × ℕ)) WireFault) (bytes : List ℕ) → kept ≡ kept_of bytes → SameSeen old bytes (lent_reply found)
      → Given found bytes (Some old)
  given (Ok (Some f)) bytes k same =
      (drop same.0 bytes, record { waits = refl; keeps = ap (drop f.1) k ∙ same.2 }, gives old bytes (Ok (Some (plain_reply f.0, same.0))) same.1)
  given (Ok None) bytes k same = (bytes, record { waits = refl; keeps = k }, gives old bytes (Ok None) same)
  given (Err fault) bytes k same = (bytes, record { waits = refl; keeps = k }, gives old bytes (Err fault) same)

  -- what it keeps
  keeps_of : (wanted : Option Wanted) (bytes : List ℕ) → ReplyUnread (reply_held (Some old) kept) wanted bytes → kept ≡ kept_of bytes
  keeps_of wanted bytes u = u.keeps ∙ ap (λ w. kept_while w bytes) (sym u.waits)

  same_kept : (seen : Parsed (PlainReply × ℕ)) (wanted : Option Wanted) (bytes : List ℕ) → seen ≡ reply_front old kept
      → ReplyUnread (reply_held (Some old) kept) wanted bytes → SameSeen old bytes seen
  same_kept seen wanted bytes e u = same_seen old bytes seen (sym (e ∙ ap (reply_front old) (keeps_of wanted bytes u)))

  goes_on : (found : Result (Option (Reply × ℕ)) WireFault) → lent_reply found ≡ reply_front old kept
      → ReplyContinues (reply_held (Some old) kept) (plain_reply_front_result found) (reply_held_after found (reply_held (Some old) kept))
  goes_on found e wanted bytes u = subst (Given found bytes) u.waits
      (given found bytes (keeps_of wanted bytes u) (same_kept (lent_reply found) wanted bytes e u))

  -- where a beginning is all that there is, there is room for more
  room_left : IsWithin old → Ok None ≡ reply_front old kept → ReplyLeavesRoom (Ok None) (reply_held (Some old) kept)
  room_left within e wanted bytes u =
      subst (λ w. reply_taken_of w bytes < READER_LIMIT) u.waits
      (room_of (reply_grammar old) bytes (reply_view old bytes) (same_kept (Ok None) wanted bytes e u) within)

  pub some_next : (found : Result (Option (Reply × ℕ)) WireFault) → IsWithin old → lent_reply found ≡ reply_front old kept
      → ReplyIsNext (reply_held (Some old) kept) (plain_reply_front_result found) (reply_held_after found (reply_held (Some old) kept))
  some_next (Ok None) within e = record { continues = goes_on (Ok None) e; room = room_left within e; unchanged = refl }
  some_next (Ok (Some f)) within e = record { continues = goes_on (Ok (Some f)) e; room = tt; unchanged = tt }
  some_next (Err fault) within e = record { continues = goes_on (Err fault) e; room = tt; unchanged = refl }

  -- a fault is seen whatever follows
  pub some_faulty : (found : Result (Option (Reply × ℕ)) WireFault) → lent_reply found ≡ reply_front old kept
      → ReplyStaysFaulty (reply_held (Some old) kept) (plain_reply_front_result found)
  some_faulty (Err fault) e = λ wanted bytes more u.
      subst (λ w. ReplyParsesAs w (bytes ++ more) (Err fault) (bytes ++ more)) u.waits
      (gives old (bytes ++ more) (Err fault) (faulty_always (reply_grammar old) bytes fault more (reply_view old bytes)
      (same_kept (Err fault) wanted bytes e u)))
  some_faulty (Ok None) e = tt
  some_faulty (Ok (Some f)) e = tt

-- where nothing is waited for
some_more : (bytes more : List ℕ) → bytes ≢ [] → bytes ++ more ≢ []
some_more [] more h = absurd (h refl)
some_more (b ∷ bytes) more h = no_cons b (bytes ++ more)

pub none_faulty : (kept : List ℕ) → kept ≢ [] → ReplyStaysFaulty (reply_held None kept) (Err TooMuchData)
none_faulty kept some = λ wanted bytes more u.
    let here : bytes ≢ [] = λ e. some (u.keeps ∙ ap (λ w. kept_while w bytes) (sym u.waits) ∙ e) in
    subst (λ w. ReplyParsesAs w (bytes ++ more) (Err TooMuchData) (bytes ++ more)) u.waits (some_more bytes more here, refl, refl)

-- a test says whether bytes are kept
pub some_kept : (kept : List ℕ) (test : Bool) → test ≡ eqb (length kept) 0 → test ≡ false → kept ≢ []
some_kept kept test e f = λ z. let none : length kept ≡ 0 = ap (length {A = ℕ}) z in absurd (grind (arith, nat_tests))

-- nothing is kept of no bytes alone
none_of : (bytes : List ℕ) → kept_of bytes ≡ [] → bytes ≡ []
unfolding kept_of
none_of [] k = refl
none_of (letter ∷ bytes) k = grind arith

none_kept : (wanted : Option Wanted) (bytes : List ℕ) → kept_while wanted bytes ≡ [] → bytes ≡ []
none_kept None bytes k = k
none_kept (Some wanted) bytes k = none_of bytes k

pub kept_nothing : (wanted : Option Wanted) → kept_while wanted [] ≡ []
unfolding kept_of
kept_nothing None = refl
kept_nothing (Some wanted) = refl

-- the bytes kept are none exactly where their start is the end
pub empty_at : (items : List ℕ) (start : ℕ) (was : Option Wanted) (wanted : Option Wanted) (bytes : List ℕ) (len : ℕ) → len ≡ length items
    → start ≤ length items
    → ReplyUnread (reply_held was (drop start items)) wanted bytes → (eqb len start ≡ true → bytes ≡ []) × (bytes ≡ [] → eqb len start ≡ true)
empty_at items start was wanted bytes len e within u =
    let end = at_end items start len e within in
    (λ t. none_kept wanted bytes (sym u.keeps ∙ end.0 t), λ z. end.1 (u.keeps ∙ ap (kept_while wanted) z ∙ kept_nothing wanted))

-- where the start is the end, nothing is held
pub all_given : (items : List ℕ) (start : ℕ) (was : Option Wanted) (len : ℕ) → len ≡ length items → start ≤ length items → eqb len start ≡ true
    → ReplyUnread (reply_held was (drop start items)) was []
all_given items start was len e within t = record { waits = refl; keeps = (at_end items start len e within).0 t ∙ sym (kept_nothing was) }

-- a reader that holds nothing waits for what it is told to
pub expected : (wanted : Wanted) (kept : List ℕ) → ReplyUnread (reply_held None kept) None [] → ReplyUnread (reply_held (Some wanted) kept) (Some wanted) []
expected wanted kept u = record { waits = refl; keeps = u.keeps ∙ sym (kept_nothing (Some wanted)) }

-- what is kept once the text that is too long was let go
pub cut_kept : (o : Option declared.Wanted) (all old new : List ℕ) (start at discardable : ℕ) → is_some o ≡ true → start ≤ length old → all ≡ old
    → kept_of (take (length all - start) (drop start all)) ≡ take at (take (length all - start) (drop start all)) ++ drop (at + discardable)
    (take (length all - start) (drop start all))
    → at + discardable ≤ length (take (length all - start) (drop start all)) → new ≡ take (start + at) old ++ drop (start + at + discardable) old
    → drop start new ≡ kept_while (plain_wanted_if_some o) (drop start old)
cut_kept None all old new start at discardable some within same cut short is = absurd (cc)
cut_kept (Some o) all old new start at discardable some within same cut short is =
    let view : take (length all - start) (drop start all) ≡ drop start old = take_rest all start ∙ ap (drop start) same in
    let cut' : kept_of (drop start old) ≡ take at (drop start old) ++ drop (at + discardable) (drop start old) =
    subst (λ l. kept_of l ≡ take at l ++ drop (at + discardable) l) view cut in
    let size : at + discardable ≤ length (drop start old) = subst (λ l. at + discardable ≤ length l) view short in
    ap (drop start) is ∙ taken_out old start at discardable (omega (arith, length-drop start old)) ∙ sym cut'

pushed_while : (wanted : Option Wanted) (bytes piece : List ℕ) → kept_while wanted (kept_while wanted bytes ++ piece) ≡ kept_while wanted (bytes ++ piece)
pushed_while None bytes piece = refl
pushed_while (Some wanted) bytes piece = pushed bytes piece

-- what is unread once more came
pub unread_more : (was : Option Wanted) (kept piece new bytes : List ℕ) (wanted : Option Wanted) → new ≡ kept_while was (kept ++ piece)
    → ReplyUnread (reply_held was kept) wanted bytes → ReplyUnread (reply_held was new) wanted (bytes ++ piece)
unread_more was kept piece new bytes wanted is u = record {
  waits = u.waits;
  keeps = is ∙ ap (λ w. kept_while w (kept ++ piece)) u.waits ∙ ap (λ l. kept_while wanted (l ++ piece)) u.keeps ∙ pushed_while wanted bytes piece;
}

-- how much room there is, where the bytes kept were moved to the front
pub room_behind : (was : Option Wanted) (items moved bytes : List ℕ) (start len : ℕ) (wanted : Option Wanted) → moved ≡ take 0 items ++ drop (0 + start) items → len ≡ length moved
    → length items ≤ READER_LIMIT → ReplyUnread (reply_held was (drop start items)) wanted bytes → READER_LIMIT - len + reply_taken_of wanted bytes ≡ READER_LIMIT
room_behind was items moved bytes start len wanted m e limit u =
    let all = ap (length {A = ℕ}) (at_front items moved [] moved start m (sym (append-nil moved))) in
    let taken = ap (length {A = ℕ}) u.keeps in
    omega (arith, all, taken, length-append {A = ℕ}, length-drop start items)

-- a text that is too long is cut where it is, after the letter of an error
pub cut_behind : (bytes : List ℕ) (p : ℕ × ℕ) (size kept : ℕ) → number_front Place.Line bytes ≡ Ok (Some p)
    → size ≡ text_len (take (length bytes - (p.1 + 1)) (drop (p.1 + 1) bytes))
    → kept ≡ min size 255 → kept_behind (number_front Place.Line bytes) bytes ≡ take (p.1 + 1 + kept) bytes ++ drop (p.1 + 1 + kept + (size - kept)) bytes
cut_behind bytes p size kept e s k =
    let all : text_len (drop (p.1 + 1) bytes) ≡ size = sym (s ∙ ap text_len (take_rest bytes (p.1 + 1))) in
    let least : min 255 size ≡ kept = omega arith in
    let sum : p.1 + 1 + kept + (size - kept) ≡ p.1 + 1 + size = omega arith in
    rw (e, all, least, sum, take-add (p.1 + 1) kept bytes, append_assoc, drop-drop size (p.1 + 1) bytes) refl

-- and with it
pub cut_error : (bytes : List ℕ) (at discardable : ℕ) → 1 ≤ length bytes → get_or bytes 0 0 ≡ 69
    → kept_behind (number_front Place.Line (take (length bytes - 1) (drop 1 bytes))) (take (length bytes - 1) (drop 1 bytes))
    ≡ take at (take (length bytes - 1) (drop 1 bytes)) ++ drop (at + discardable) (take (length bytes - 1) (drop 1 bytes))
    → kept_of bytes ≡ take (at + 1) bytes ++ drop (at + 1 + discardable) bytes
unfolding kept_of
cut_error [] at discardable some is cut = absurd (omega arith)
cut_error (b ∷ rest) at discardable some is cut =
    let all : take (length (b ∷ rest) - 1) (drop 1 (b ∷ rest)) ≡ rest = take_rest (b ∷ rest) 1 in
    let here : b ≡ 69 = is in
    let first : at + 1 ≡ suc at = omega arith in
    let second : at + 1 + discardable ≡ suc (at + discardable) = omega arith in
    rw (here, second, first) (ap (λ l. 69 ∷ l) (rw all at cut))
