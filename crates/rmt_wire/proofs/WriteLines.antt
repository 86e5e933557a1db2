-- The line of a write at the front, whether it is to be dropped or not.
use Rattle.rmt_wire.proofs.Words.{List, None, Ok, Option, Some, [], ap, append_assoc, arith, drop, length, refl, sym, take, take-append-drop, ℕ, ◌++◌, ◌+◌, ◌<◌, ◌↔◌, ◌∙◌, ◌∷◌, ◌≡◌, ◌≤◌, nat_tests, drop_at, take_at, IfSome, SpellsNumber, line_feed, Parsed, number_front, IsDroppedLine, written_at, front_of, dropped_line, line_if_seen, if_dropped, IsKnown, write_line, RECORD_LIMIT, Place}
use Rattle.rmt_wire.proofs.Grammars.{View}
use Rattle.rmt_wire.proofs.Numbers.{pick, numbers, number_view, digits_spell, number_is_seen, behind, length_line, end_feed}
use Rattle.rmt_wire.proofs.Requests.{write_seen}

-- the bytes are a write's line, of this length and with this count, and what is after it
pub record IsWriteLine (bytes : List ℕ) (line : ℕ × ℕ) : Type 0 where
  pub number : List ℕ
  pub rest : List ℕ
  pub spelled : SpellsNumber number line.1
  pub split : bytes ≡ 87 ∷ (number ++ line_feed ∷ rest)
  pub long : line.0 ≡ length number + 2

seen_write : (bytes : List ℕ) (seen : Parsed (ℕ × ℕ)) (line : ℕ × ℕ) → View (numbers Place.Line 0 0) bytes seen → line_if_seen seen ≡ Some line
    → IsWriteLine (87 ∷ bytes) line
seen_write bytes (Ok (Some p)) line v e =
    let same : (p.1 + 2, p.0) ≡ line = cc in
    let s : SpellsNumber v.digits p.0 = rw v.value (digits_spell v.digits v.are v.some) in
    rw (← same) (record {
      number = v.digits;
      rest = v.rest;
      spelled = s;
      split = ap (λ l. 87 ∷ l) (v.split ∙ ap (λ x. v.digits ++ x ∷ v.rest) (end_feed v.stop v.ends));
      long = (let digits = v.long in omega arith);
    })
seen_write bytes other line v e = absurd (cc)

pub write_found : (bytes : List ℕ) (line : ℕ × ℕ) → write_line bytes ≡ Some line → IsWriteLine bytes line
unfolding write_line
write_found [] line e = absurd (cc)
write_found (letter ∷ bytes) line e = pick letter 87 (λ l. write_line (l ∷ bytes) ≡ Some line → IsWriteLine (l ∷ bytes) line)
    (seen_write bytes (number_front Place.Line bytes) line (number_view Place.Line bytes)) (λ other found. (let none = rw other at found in absurd (cc))) e

-- such a line is found, whatever follows it
seen : (number rest : List ℕ) (n : ℕ) → SpellsNumber number n → write_line (87 ∷ (number ++ line_feed ∷ rest)) ≡ Some (length number + 2, n)
unfolding write_line
seen number rest n s = ap line_if_seen (number_is_seen Place.Line number n line_feed rest s refl refl)

-- the line is what is kept in front, and the rest is after it
pub text_split : (bytes number rest : List ℕ) (len : ℕ) → bytes ≡ 87 ∷ (number ++ line_feed ∷ rest) → len ≡ length number + 2
    → (drop len bytes ≡ rest) × ((more : List ℕ) → take len bytes ++ more ≡ 87 ∷ (number ++ line_feed ∷ more)) × (len ≤ length bytes)
text_split bytes number rest len split long =
    let line : List ℕ = 87 ∷ (number ++ line_feed ∷ []) in
    let size : length line ≡ len = omega (arith, length_line 87 number []) in
    let front : bytes ≡ line ++ rest = split ∙ behind 87 number [] rest in (
      ap (drop len) front ∙ drop_at line rest len size,
      λ more. ap (λ l. take len l ++ more) front ∙ ap (λ l. l ++ more) (take_at line rest len size) ∙ sym (behind 87 number [] more),
      omega (arith, length_line 87 number rest, ap (length {A = ℕ}) split),
    )

-- the line lies within the bytes
pub known_within : (known : Option (ℕ × ℕ)) (bytes : List ℕ) → IsKnown known bytes → IfSome known (λ line. line.0 ≤ length bytes)
known_within None bytes k = tt
known_within (Some line) bytes k = let d = write_found bytes line k in (text_split bytes d.number d.rest line.0 d.split d.long).2

-- another text after the line changes nothing of what is found
pub write_stays : (bytes : List ℕ) (line : ℕ × ℕ) → write_line bytes ≡ Some line → (more : List ℕ) → write_line (take line.0 bytes ++ more) ≡ Some line
write_stays bytes line e more =
    let d = write_found bytes line e in
    ap write_line ((text_split bytes d.number d.rest line.0 d.split d.long).1 more) ∙ seen d.number more line.1 d.spelled
    ∙ ap (λ n. Some (n, line.1)) (sym d.long)

-- and a line that is known stays known when more is pushed
pub known_pushed : (known : Option (ℕ × ℕ)) (kept piece : List ℕ) → IsKnown known kept → IsKnown known (kept ++ piece)
known_pushed None kept piece k = tt
known_pushed (Some line) kept piece k =
    ap (λ l. write_line (l ++ piece)) (sym (take-append-drop line.0 kept)) ∙ ap write_line (append_assoc (take line.0 kept) (drop line.0 kept) piece)
    ∙ write_stays kept line k (drop line.0 kept ++ piece)

-- the line of a dropped write is a line of a write
pub dropped_is : (bytes : List ℕ) → dropped_line bytes ≡ if_dropped (write_line bytes)
unfolding dropped_line write_line
dropped_is [] = refl
dropped_is (letter ∷ bytes) = grind arith

-- where no write's line is whole, or that of a write that is kept, no write is to be dropped
pub no_line : (bytes : List ℕ) → None ≡ write_line bytes → dropped_line bytes ≡ None
no_line bytes e = grind (arith, dropped_is bytes)

pub short_line : (bytes : List ℕ) (line : ℕ × ℕ) → Some line ≡ write_line bytes → line.1 ≤ RECORD_LIMIT → dropped_line bytes ≡ None
short_line bytes line e few = grind (arith, nat_tests, dropped_is bytes)

pub long_line : (bytes : List ℕ) (line : ℕ × ℕ) → Some line ≡ write_line bytes → RECORD_LIMIT < line.1 → dropped_line bytes ≡ Some line
long_line bytes line e many = grind (arith, nat_tests, dropped_is bytes)

-- a line that is that of a dropped write is that line, and its count is great
pub dropped_same : (known : Option (ℕ × ℕ)) (line : ℕ × ℕ) → if_dropped known ≡ Some line → (known ≡ Some line) × (RECORD_LIMIT < line.1)
dropped_same known line e = grind (arith, nat_tests)

pub dropped_write : (bytes : List ℕ) (line : ℕ × ℕ) → dropped_line bytes ≡ Some line → (write_line bytes ≡ Some line) × (RECORD_LIMIT < line.1)
dropped_write bytes line e = dropped_same (write_line bytes) line (sym (dropped_is bytes) ∙ e)

-- another text after the line changes nothing of what is found
pub line_stays : (bytes : List ℕ) (line : ℕ × ℕ) → dropped_line bytes ≡ Some line → (more : List ℕ) → dropped_line (take line.0 bytes ++ more) ≡ Some line
line_stays bytes line e more =
    let d = dropped_write bytes line e in
    long_line (take line.0 bytes ++ more) line (sym (write_stays bytes line d.0 more)) d.1

-- nor does more that is pushed
pub line_pushed : (kept piece : List ℕ) (line : ℕ × ℕ) → dropped_line kept ≡ Some line → dropped_line (kept ++ piece) ≡ Some line
line_pushed kept piece line e =
    let d = dropped_write kept line e in
    long_line (kept ++ piece) line (sym (known_pushed (Some line) kept piece d.0)) d.1

pub dropped_found : (bytes : List ℕ) (line : ℕ × ℕ) → dropped_line bytes ≡ Some line → IsDroppedLine bytes line.0 line.1
dropped_found bytes line e =
    let d = dropped_write bytes line e in
    let w = write_found bytes line d.0 in
    record { number = w.number; rest = w.rest; spelled = w.spelled; large = d.1; split = w.split; long = w.long }

pub line_split : (bytes : List ℕ) (line : ℕ × ℕ) (d : IsDroppedLine bytes line.0 line.1)
    → (drop line.0 bytes ≡ d.rest) × ((more : List ℕ) → take line.0 bytes ++ more ≡ 87 ∷ (d.number ++ line_feed ∷ more)) × (line.0 ≤ length bytes)
line_split bytes line d = text_split bytes d.number d.rest line.0 d.split d.long

-- a write to be dropped is found where the grammar has one, and only there
pub dropped_exactly : (bytes : List ℕ) (len count : ℕ) → (dropped_line bytes ≡ Some (len, count)) ↔ IsDroppedLine bytes len count
dropped_exactly bytes len count = (
  dropped_found bytes (len, count),
  λ d. long_line bytes (len, count) (sym (ap write_line d.split ∙ seen d.number d.rest count d.spelled ∙ ap (λ n. Some (n, count)) (sym d.long))) d.large,
)

-- what is found of bytes is found of the same bytes
pub dropped_found_of : (bytes kept : List ℕ) (known found : Option (ℕ × ℕ)) → bytes ≡ kept → known ≡ write_line bytes → found ≡ if_dropped known
    → dropped_line kept ≡ found
dropped_found_of bytes kept known found same k f = cc (dropped_is kept)

-- the request of a write is found by its line
pub write_front : (bytes : List ℕ) (line : ℕ × ℕ) → write_line bytes ≡ Some line → front_of bytes ≡ written_at line.1 line.0 bytes
write_front bytes line e =
    let d = write_found bytes line e in
    ap front_of d.split ∙ write_seen d.number d.rest line.1 d.spelled ∙ (cc (d.long, d.split))
