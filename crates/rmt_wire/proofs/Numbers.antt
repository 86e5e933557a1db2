-- What is seen of a number.
use Rattle.rmt_wire.proofs.Words.{Bool, Err, List, Ok, Some, [], add-zero, ap, append-nil, append_assoc, arith, drop, eqb, false, if◌then◌else◌, length, length-append, ltb, refl, replicate, subst, sym, take, take-append-drop, true, ℕ, ◌*◌, ◌++◌, ◌+◌, ◌-◌, ◌<◌, ◌==◌, ◌∙◌, ◌∷◌, ◌≡◌, ◌≤◌, nat_tests, drop_at, length-replicate, take_at, digit_value, nat_lt, ◌&&◌, ◌||◌, AllDigits, digits_value, digits_value_after, SpellsNumber, line_feed, Parsed, number_front, after, is_digit, ends_number, is_too_much, number_from, WireFault, BadNumber, TooMuchData, Place}
use Rattle.rmt_wire.proofs.Grammars.{Reading, Seen, fault_first, past_with, past, Grammar, IsPrefix, reading, shorter}
use Rattle.std.proofs.lemmas.Str.Parse.{digit_from_value}

-- a test goes one way or the other
pub on : {P : Type 0} (b : Bool) → (b ≡ true → P) → (b ≡ false → P) → P
on true p q = p refl
on false p q = q refl

-- a test of a letter: this one, or another
pub pick : (letter expected : ℕ) (P : ℕ → Type 0) → P expected → (eqb letter expected ≡ false → P letter) → P letter
pick letter expected P p other = on (eqb letter expected) (λ h. subst P (grind (arith, nat_tests)) p) other

-- a reading with nothing more to be read
pub after_some : {A : Type 0} (seen : Parsed A) → seen ≡ after seen (λ a. Ok (Some a))
after_some seen = grind arith

-- one step after two is two steps after one
pub after_after : {A B C : Type 0} (seen : Parsed A) (f : A → Parsed B) (h : B → Parsed C) → after (after seen f) h ≡ after seen (λ a. after (f a) h)
after_after seen f h = grind arith

-- a digit's value, by the range that it lies in
digit_small : (d : ℕ) → is_digit d ≡ true → digit_value d < 10
digit_small d h = grind (arith, nat_tests)

is_digit_from_value : (d : ℕ) → digit_value d < 10 → is_digit d ≡ true
is_digit_from_value d h = let r = digit_from_value d h in grind (arith, nat_tests)

-- what ends a number is no digit
end_no_digit : (place : Place) (b : ℕ) → ends_number place b ≡ true → is_digit b ≡ false
end_no_digit place b h = grind (arith, nat_tests)

-- what is less than what is not too much is not
less_wanted : (place : Place) (v w : ℕ) → v ≤ w → is_too_much place w ≡ false → is_too_much place v ≡ false
less_wanted place v w less h = grind (arith, nat_tests)

-- later digits make no value less
value_grows : (v : ℕ) (ds : List ℕ) → v ≤ digits_value_after 10 v ds
value_grows v [] = omega arith
value_grows v (d ∷ ds) = omega (arith, value_grows (v * 10 + digit_value d) ds)

-- so many digits after others are no more than ten, and their value is a number's that may stand here
pub record AreDigits (place : Place) (v c : ℕ) (digits : List ℕ) : Type 0 where
  pub each : AllDigits 10 digits
  pub small : digits_value_after 10 v digits ≤ 2147483647
  pub few : c + length digits ≤ 10
  pub wanted : is_too_much place (digits_value_after 10 v digits) ≡ false

-- a digit takes a number on, unless its value is too great then
digit_step : (place : Place) (v c b : ℕ) (bytes : List ℕ) → is_digit b ≡ true → number_from place v c (b ∷ bytes) ≡
    (if is_too_much place (v * 10 + digit_value b) then Err TooMuchData
    else if c == 10 || nat_lt 2147483647 (v * 10 + digit_value b) then Err BadNumber
    else number_from place (v * 10 + digit_value b) (c + 1) bytes)
digit_step place v c b bytes digit = grind (arith, nat_tests)

-- digits and the byte that ends them are seen as their number
number_seen : (place : Place) (v c : ℕ) (digits : List ℕ) (stop : ℕ) (more : List ℕ) → AreDigits place v c digits → 0 < c + length digits
    → ends_number place stop ≡ true
    → number_from place v c (digits ++ stop ∷ more) ≡ Ok (Some (digits_value_after 10 v digits, c + length digits))
number_seen place v c [] stop more d some ends = grind (arith, nat_tests, end_no_digit)
number_seen place v c (b ∷ digits) stop more d some ends =
    let later = number_seen place (v * 10 + digit_value b) (c + 1) digits stop more
    (record { each = d.each.1; small = d.small; few = omega arith; wanted = d.wanted }) (omega arith) ends in
    grind (arith, nat_tests, later, value_grows (v * 10 + digit_value b) digits, less_wanted place (v * 10 + digit_value b), is_digit_from_value, digit_step)

-- the byte is a digit, and makes the number too much
abbrev pub MakesTooMuch : Place → ℕ → List ℕ → ℕ → Type 0
MakesTooMuch place v digits byte = (digit_value byte < 10) × (is_too_much place (digits_value_after 10 v (digits ++ byte ∷ [])) ≡ true)

-- which fault a byte is after digits, if this makes their number too much
abbrev pub IsFaultIf : Type 0 → WireFault → Type 0
IsFaultIf much BadNumber = ¬ much
IsFaultIf much TooMuchData = much
IsFaultIf much other = ⊥

abbrev pub IsNumberFault : Place → ℕ → List ℕ → ℕ → WireFault → Type 0
IsNumberFault place v digits byte fault = IsFaultIf (MakesTooMuch place v digits byte) fault

-- where nothing is too much, each byte that cannot follow digits is a bad number
pub bad_byte : (place : Place) (Cause : List ℕ → ℕ → WireFault → Type 0) (pre : List ℕ → List ℕ) → ((n : ℕ) → is_too_much place n ≡ false)
    → ((digits : List ℕ) (byte : ℕ) → AllDigits 10 digits → length digits ≤ 10 → Cause (pre digits) byte BadNumber)
    → (digits : List ℕ) (byte : ℕ) (fault : WireFault) → AreDigits place 0 0 digits → IsNumberFault place 0 digits byte fault → Cause (pre digits) byte fault
bad_byte place Cause pre never ends digits byte fault d h =
    let bad : BadNumber ≡ fault = grind arith in
    subst (Cause (pre digits) byte) bad (ends digits byte d.each (omega arith))

-- a byte ends the digits
pub record NumberDone (place : Place) (v c : ℕ) (bytes : List ℕ) (p : ℕ × ℕ) : Type 0 where
  pub digits : List ℕ
  pub rest : List ℕ
  pub stop : ℕ
  pub are : AreDigits place v c digits
  pub split : bytes ≡ digits ++ stop ∷ rest
  pub ends : ends_number place stop ≡ true
  pub value : p.0 ≡ digits_value_after 10 v digits
  pub long : p.1 ≡ c + length digits
  pub some : 0 < c + length digits

-- what is read of a number after other digits
abbrev pub numbers : Place → ℕ → ℕ → Reading (ℕ × ℕ)
numbers place v c = record { front = number_from place v c; IsOpen = AreDigits place v c; IsDone = NumberDone place v c; IsCause = IsNumberFault place v }

-- the same with one digit more in front
one_more : (place : Place) (v c b : ℕ) (digits : List ℕ) → is_digit b ≡ true → AreDigits place (v * 10 + digit_value b) (c + 1) digits
    → AreDigits place v c (b ∷ digits)
one_more place v c b digits digit d = grind (arith, digit_small)

-- a digit in front of what is seen after it
digit_view : (place : Place) (v c b : ℕ) (bytes : List ℕ) → is_digit b ≡ true → is_too_much place (v * 10 + digit_value b) ≡ false
    → eqb c 10 || ltb 2147483647 (v * 10 + digit_value b) ≡ false → Seen (numbers place (v * 10 + digit_value b) (c + 1)) bytes
    → Seen (numbers place v c) (b ∷ bytes)
digit_view place v c b bytes digit wanted fits view =
    past_with (numbers place (v * 10 + digit_value b) (c + 1)) (numbers place v c) (λ t. b ∷ t) (λ t p. Ok (Some p)) (λ x y. refl)
    (λ t. digit_step place v c b t digit ∙ rw (wanted, fits) (after_some (number_from place (v * 10 + digit_value b) (c + 1) t)))
    (λ t d. one_more place v c b t digit d) (λ t byte fault d h. h) bytes view
    (λ p e d. record {
      digits = b ∷ d.digits;
      rest = d.rest;
      stop = d.stop;
      are = one_more place v c b d.digits digit d.are;
      split = ap (λ l. b ∷ l) d.split;
      ends = d.ends;
      value = d.value;
      long = (let e = d.long in omega arith);
      some = omega arith;
    })

-- the view after some digits
view_from : (place : Place) (v c : ℕ) (bytes : List ℕ) → v ≤ 2147483647 → c ≤ 10 → is_too_much place v ≡ false → Seen (numbers place v c) bytes
view_from place v c [] small few wanted = record { each = tt; small = small; few = omega arith; wanted = wanted }
view_from place v c (b ∷ bytes) small few wanted =
    let none : AreDigits place v c [] = record { each = tt; small = small; few = omega arith; wanted = wanted } in
    let value : ℕ = v * 10 + digit_value b in
    on (is_digit b)
    (λ digit. on (is_too_much place value)
    (λ much. fault_first (numbers place v c) b bytes TooMuchData none (digit_small b digit, much) (λ more. digit_step place v c b more digit ∙ rw much refl))
    (λ enough. on (eqb c 10 || ltb 2147483647 value)
    (λ full. fault_first (numbers place v c) b bytes BadNumber none (λ m. let much = m.1 in absurd (cc))
    (λ more. digit_step place v c b more digit ∙ rw (enough, full) refl))
    (λ fits. digit_view place v c b bytes digit enough fits
    (view_from place value (c + 1) bytes (grind (arith, nat_tests)) (grind (arith, nat_tests)) enough))))
    (λ other. on (ltb 0 c && ends_number place b)
    (λ ends. rw (other, ends) (record {
      digits = [];
      rest = bytes;
      stop = b;
      are = none;
      split = refl;
      ends = grind (arith, nat_tests);
      value = refl;
      long = sym (add-zero c);
      some = grind (arith, nat_tests);
    }))
    (λ bad. fault_first (numbers place v c) b bytes BadNumber none (λ m. let h = is_digit_from_value b m.0 in absurd (cc)) (λ more. rw (other, bad) refl)))

pub number_view : (place : Place) (bytes : List ℕ) → Seen (numbers place 0 0) bytes
number_view place bytes = view_from place 0 0 bytes (omega arith) (omega arith) (grind (arith, nat_tests))

-- the number zero
pub zero_spells : SpellsNumber (48 ∷ []) 0
zero_spells = record { digits = (omega arith, (omega arith, tt)); few = omega arith; value = refl; small = omega arith }

-- digits are a number, or become one
pub digits_spell : {place : Place} (digits : List ℕ) → AreDigits place 0 0 digits → 0 < 0 + length digits → SpellsNumber digits (digits_value 10 digits)
digits_spell digits d some = grind arith

number_done : {place : Place} (digits : List ℕ) → AreDigits place 0 0 digits
    → (fill : List ℕ) × (n : ℕ) × SpellsNumber (digits ++ fill) n × (is_too_much place n ≡ false)
number_done [] d = (48 ∷ [], 0, zero_spells, d.wanted)
number_done (b ∷ digits) d = ([], digits_value 10 (b ∷ digits), rw append-nil (digits_spell (b ∷ digits) d (omega arith)), d.wanted)

-- a spelled number is seen, and a byte that ends it
pub number_is_seen : (place : Place) (text : List ℕ) (n stop : ℕ) (more : List ℕ) → SpellsNumber text n → is_too_much place n ≡ false
    → ends_number place stop ≡ true
    → number_front place (text ++ stop ∷ more) ≡ Ok (Some (n, length text))
number_is_seen place text n stop more s wanted ends =
    let d : AreDigits place 0 0 text = grind arith in
    grind (arith, number_seen place 0 0 text stop more d (omega arith) ends)

-- after one byte after a front, and up to it
pub drop_past : (xs ys : List ℕ) (y : ℕ) → drop (length xs + 1) (xs ++ y ∷ ys) ≡ ys
drop_past xs ys y = rw (← append_assoc xs (y ∷ []) ys) (drop_at (xs ++ y ∷ []) ys (length xs + 1) (length-append xs (y ∷ [])))

pub take_past : (xs ys : List ℕ) (y : ℕ) → take (length xs + 1) (xs ++ y ∷ ys) ≡ xs ++ y ∷ []
take_past xs ys y = rw (← append_assoc xs (y ∷ []) ys) (take_at (xs ++ y ∷ []) ys (length xs + 1) (length-append xs (y ∷ [])))

-- what follows the first line of a letter, and the second
pub behind : (letter : ℕ) (first a b : List ℕ) → letter ∷ (first ++ line_feed ∷ (a ++ b)) ≡ letter ∷ (first ++ line_feed ∷ a) ++ b
behind letter first a b = simp append_assoc

pub behind_lines : (letter : ℕ) (first second rest : List ℕ)
    → letter ∷ (first ++ line_feed ∷ (second ++ line_feed ∷ rest)) ≡ letter ∷ (first ++ line_feed ∷ (second ++ line_feed ∷ [])) ++ rest
behind_lines letter first second rest = simp append_assoc

-- so many bytes of data after the first line, and what follows them
pub behind_data : (letter : ℕ) (first : List ℕ) (n : ℕ) (rest : List ℕ)
    → letter ∷ (first ++ line_feed ∷ rest) ≡ letter ∷ (first ++ line_feed ∷ take n rest) ++ drop n rest
behind_data letter first n rest = ap (λ l. letter ∷ (first ++ line_feed ∷ l)) (sym (take-append-drop n rest)) ∙ behind letter first (take n rest) (drop n rest)

-- bytes that make them so many
pub padded : (rest : List ℕ) (n : ℕ) → length rest ≤ n → (fill : List ℕ) × (length (rest ++ fill) ≡ n)
padded rest n less = (replicate (n - length rest) 0, omega (arith, length-append {A = ℕ}, length-replicate {A = ℕ}))

pub length_line : (letter : ℕ) (number more : List ℕ) → length (letter ∷ (number ++ line_feed ∷ more)) ≡ length number + 2 + length more
length_line letter number more = omega (arith, length-append number (line_feed ∷ more))

-- the end of a number on a line of its own is a line feed
pub end_feed : (stop : ℕ) → ends_number Place.Line stop ≡ true → stop ≡ line_feed
end_feed stop h = grind (arith, nat_tests)

-- bytes in front that lead to a number
module _ {A : Type 0} (g : Grammar A) (place : Place) (pre : List ℕ → List ℕ) (next : List ℕ → ℕ × ℕ → Parsed (A × ℕ))
    (moved : (a b : List ℕ) → pre (a ++ b) ≡ pre a ++ b)
    (whole : (t : List ℕ) → g.front (pre t) ≡ after (number_front place t) (next t)) (room : (digits : List ℕ) → length digits ≤ 10 → g.HasRoom (pre digits))
    (goes_on : (number : List ℕ) (n : ℕ) → SpellsNumber number n → is_too_much place n ≡ false → IsPrefix g (pre number))
    (causes : (digits : List ℕ) (byte : ℕ) (fault : WireFault) → AreDigits place 0 0 digits → IsNumberFault place 0 digits byte fault
    → g.IsCause (pre digits) byte fault) where
  digits_open : (digits : List ℕ) → AreDigits place 0 0 digits → IsPrefix g (pre digits) × g.HasRoom (pre digits)
  digits_open digits d =
      let f = number_done digits d in
      let few = d.few in
      (shorter g (pre digits) f.0 (subst (IsPrefix g) (moved digits f.0) (goes_on (digits ++ f.0) f.1 f.2 f.3)), room digits (omega arith))

  pub past_number : (bytes : List ℕ) → ((p : ℕ × ℕ) → NumberDone place 0 0 bytes p → Seen (reading g) (pre bytes)) → Seen (reading g) (pre bytes)
  past_number bytes done = past (numbers place 0 0) (reading g) pre next moved whole digits_open causes bytes (number_view place bytes) done

  -- the number alone on its line
  pub past_line : ((stop : ℕ) → ends_number place stop ≡ true → stop ≡ line_feed) → (bytes : List ℕ)
      → ((number rest : List ℕ) (n : ℕ) → SpellsNumber number n → is_too_much place n ≡ false → Seen (reading g) (pre (number ++ line_feed ∷ rest)))
      → Seen (reading g) (pre bytes)
  past_line feed bytes each =
      past_number bytes (λ p d. subst (λ t. Seen (reading g) (pre t)) (sym (d.split ∙ ap (λ x. d.digits ++ x ∷ d.rest) (feed d.stop d.ends)))
      (each d.digits d.rest (digits_value 10 d.digits) (digits_spell d.digits d.are d.some) d.are.wanted))
