-- What is seen of a line.
use Rattle.rmt_wire.proofs.Words.{List, Ok, Some, [], add-zero, ap, arith, eqb, false, length, refl, ℕ, ◌++◌, ◌+◌, ◌∷◌, ◌≡◌, ◌≢◌, ◌≤◌, nat_tests, line_feed, HasNoLineFeed, IsLine, line_from, line_front, LineTooLong}
use Rattle.rmt_wire.proofs.Grammars.{Reading, Seen, fault_first, past_with}
use Rattle.rmt_wire.proofs.Numbers.{on, after_some}

-- so many bytes of a line after others are no more than 255
pub record AreOfLine (c : ℕ) (line : List ℕ) : Type 0 where
  pub each : HasNoLineFeed line
  pub few : c + length line ≤ 255

-- so many bytes go before the rest of the line
pub line_skips : (c : ℕ) (first more : List ℕ) → AreOfLine c first → line_from c (first ++ more) ≡ line_from (c + length first) more
line_skips c [] more l = rw add-zero refl
line_skips c (b ∷ first) more l =
    let later = line_skips (c + 1) first more (record { each = l.each.1; few = omega arith }) in
    grind (arith, nat_tests, later)

-- a line feed ends the line
pub record LineDone (c : ℕ) (bytes : List ℕ) (n : ℕ) : Type 0 where
  pub line : List ℕ
  pub rest : List ℕ
  pub are : AreOfLine c line
  pub split : bytes ≡ line ++ line_feed ∷ rest

-- what is read of a line after other bytes of it: its fault is a 256th byte
abbrev pub lines : ℕ → Reading ℕ
lines c = record {
  front = line_from c;
  IsOpen = AreOfLine c;
  IsDone = LineDone c;
  IsCause = λ line byte fault. (fault ≡ LineTooLong) × (c + length line ≡ 255) × (byte ≢ line_feed);
}

one_more : (c b : ℕ) (line : List ℕ) → eqb b line_feed ≡ false → AreOfLine (c + 1) line → AreOfLine c (b ∷ line)
one_more c b line other l = grind (arith, nat_tests)

-- a byte in front of what is seen after it
byte_view : (c b : ℕ) (bytes : List ℕ) → eqb b line_feed ≡ false → eqb c 255 ≡ false → Seen (lines (c + 1)) bytes → Seen (lines c) (b ∷ bytes)
byte_view c b bytes other room view =
    past_with (lines (c + 1)) (lines c) (λ t. b ∷ t) (λ t n. Ok (Some n)) (λ x y. refl)
    (λ t. rw (other, room) (after_some (line_from (c + 1) t)))
    (λ t l. one_more c b t other l)
    (λ t byte fault l h. (h.0, (let e = h.1 in omega arith), h.2))
    bytes view
    (λ n e d. record { line = b ∷ d.line; rest = d.rest; are = one_more c b d.line other d.are; split = ap (λ l. b ∷ l) d.split })

pub line_view : (c : ℕ) (bytes : List ℕ) → c ≤ 255 → Seen (lines c) bytes
line_view c [] few = record { each = tt; few = omega arith }
line_view c (b ∷ bytes) few =
    let none : AreOfLine c [] = record { each = tt; few = omega arith } in
    on (eqb b line_feed)
    (λ ends. let e : b ≡ line_feed = grind (arith, nat_tests) in rw ends (record { line = []; rest = bytes; are = none; split = ap (λ x. x ∷ bytes) e }))
    (λ other. on (eqb c 255)
    (λ full. fault_first (lines c) b bytes LineTooLong none (grind (arith, nat_tests)) (λ more. rw (other, full) refl))
    (λ room. byte_view c b bytes other room (line_view (c + 1) bytes (grind (arith, nat_tests)))))

-- a line and its line feed are seen as the line's length
pub line_is_seen : (line more : List ℕ) → IsLine line → line_front (line ++ line_feed ∷ more) ≡ Ok (Some (length line))
line_is_seen line more l = grind (arith, line_skips 0 line (line_feed ∷ more) (record { each = l.1; few = omega arith }))
