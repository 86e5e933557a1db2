-- What is written of entries spells them.
use Rattle.dumpdates.proofs.Terms.{◌≡◌, ℕ, suc, zero, ◌-◌, ◌/◌, ◌<◌, ◌≤◌, ltb, List, [], ◌∷◌, ◌++◌, length, replicate, decimal, refl, sym, ap, arith, append_assoc, pos, unsigned_abs, nat_tests, cond_both, append-nil, decimal_is_IsNumeral}
use Rattle.dumpdates.proofs.Terms.{length-decimal-le, weekday_number, days_in_month_bounds, weekday_number_bound, signed_arith, DatesEntry, IsEntry, last_second, IsGap, SpellsDigits, SpellsLine, IsMoment, moment_of, seconds_at, weekday_name}
use Rattle.dumpdates.proofs.Terms.{month_name, space, digit, two_digits, day_text, time_text, ctime_text, padded_name}
use Rattle.dumpdates.proofs.Days.{is_numbered, days_from_1970}
use Rattle.dumpdates.proofs.Digits.{below_power}

-- the moment of a second is one, and it is that second's
pub moment_is : (date : ℕ) → date ≤ last_second → IsMoment (moment_of date)
moment_is date late =
    let i = is_numbered (date / 86400) (omega arith) in let from = i.late in let to = i.civil.0.1 in
    record { year = (omega arith, omega (arith, signed_arith)); day = i.civil; hour = omega arith; minute = omega arith; second = omega arith }

pub moment_again : (date : ℕ) → date ≤ last_second → seconds_at (moment_of date) ≡ date
moment_again date late = let day = ap unsigned_abs (days_from_1970 (date / 86400) (omega arith)) in omega arith

one_spelled : (n : ℕ) → n < 10 → SpellsDigits 1 1 (digit n ∷ []) n
one_spelled n small = grind (arith, nat_tests)

two_spelled : (n : ℕ) → n < 100 → SpellsDigits 2 2 (two_digits n) n
two_spelled n small = grind (arith, nat_tests)

-- a year from 1970 to 9999 has four digits: three of them would be less than 1000
year_spelled : (n : ℕ) → 1970 ≤ n → n ≤ 9999 → SpellsDigits 4 4 (decimal n) n
year_spelled n low high =
    let ((some, digits), value) = decimal_is_IsNumeral n (omega arith) in
    grind (arith, length-decimal-le 4 n (omega arith) (omega arith) (omega arith), below_power (decimal n) 3 digits)

-- The day without the space in front of a single digit, and the gap before it, with that space.
record DayParts (n : ℕ) (text : List ℕ) : Type 0 where
  gap : List ℕ
  word : List ℕ
  is_gap : IsGap gap
  joined : (rest : List ℕ) → space ∷ (text ++ rest) ≡ gap ++ (word ++ rest)
  spelled : SpellsDigits 1 2 word n

day_parts : (n : ℕ) → n < 100 → DayParts n (day_text n)
day_parts n small =
    cond_both (ltb n 10) (space ∷ digit n ∷ []) (two_digits n) (DayParts n)
    (λ few. record { gap = space ∷ space ∷ []; word = digit n ∷ []; is_gap = grind arith; joined = λ rest. refl; spelled = grind (arith, nat_tests) })
    (λ many. record { gap = space ∷ []; word = two_digits n; is_gap = grind arith; joined = λ rest. refl; spelled = grind (arith, nat_tests) })

-- a line without its end
abbrev pub line_front : DatesEntry → List ℕ
line_front e = padded_name e.name ++ (space ∷ digit e.level ∷ space ∷ ctime_text e.date)

padding_gap : (n : ℕ) → IsGap (replicate n space ++ space ∷ [])
padding_gap zero = grind arith
padding_gap (suc n) = grind (arith, padding_gap n)

pub front_spelled : (e : DatesEntry) → IsEntry e → SpellsLine (line_front e) e
unfolding ctime_text weekday_name
front_spelled e i =
    let m = moment_of e.date in let is = moment_is e.date i.date in let (month, day) = is.day.1 in
    let long = days_in_month_bounds (pos m.year) m.month in let last = is.day.2.1 in let parts = day_parts m.day (omega arith) in
    let one : IsGap (space ∷ []) = grind arith in let pad = replicate (32 - length e.name) space in
    let tail : List ℕ = space ∷ (time_text m ++ (space ∷ decimal m.year)) in (
      record { name = e.name; level = e.level; moment = m },
      (
        record {
          name = e.name;
          level = digit e.level ∷ [];
          weekday = weekday_name (e.date / 86400);
          month = month_name m.month;
          day = parts.word;
          time = time_text m;
          year = decimal m.year;
        },
        record {
          before = [];
          text = line_front e;
          after = [];
          spaces_before = tt;
          spaces_after = tt;
          parted = (
            pad ++ space ∷ [],
            digit e.level ∷ space ∷ ctime_text e.date,
            padding_gap (32 - length e.name),
            simp append_assoc,
            (
              space ∷ [],
              ctime_text e.date,
              one,
              refl,
              (
                space ∷ [],
                month_name m.month ++ (parts.gap ++ (parts.word ++ tail)),
                one,
                ap (λ t. weekday_name (e.date / 86400) ++ (space ∷ (month_name m.month ++ t))) (parts.joined tail),
                (
                  parts.gap,
                  parts.word ++ tail,
                  parts.is_gap,
                  refl,
                  (space ∷ [], time_text m ++ (space ∷ decimal m.year), one, refl, (space ∷ [], decimal m.year, one, refl, refl)),
                ),
              ),
            ),
          );
          joined = sym (append-nil (line_front e));
        },
        record {
          is_name = i.name;
          same_name = refl;
          level = one_spelled e.level (omega (arith, i.level));
          weekday = (weekday_number (pos (e.date / 86400)), weekday_number_bound (pos (e.date / 86400)), refl);
          month = (is.day.1, refl);
          day = parts.spelled;
          time = record {
            hours = two_digits m.hour;
            minutes = two_digits m.minute;
            seconds = two_digits m.second;
            hour = two_spelled m.hour (omega (arith, is.hour));
            minute = two_spelled m.minute (omega (arith, is.minute));
            second = two_spelled m.second (omega (arith, is.second));
            joined = refl;
          };
          year = year_spelled m.year is.year.0 is.year.1;
        },
      ),
      is,
      rw (moment_again e.date i.date) refl,
    )
