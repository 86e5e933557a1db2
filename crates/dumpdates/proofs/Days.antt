-- Day numbers, and the days that come one after another from 1 January 1970 on.
use Rattle.dumpdates.proofs.Terms.{◌≡◌, ℕ, zero, suc, ◌+◌, ◌<◌, ◌≤◌, ltb, sym, subst, ◌∙◌, arith, ℤ, pos, ◌≤ℤ◌, ltb-true, ltb-false, cond_both, day_count, days_in_month, days_from_civil, IsCivilDate, epoch_day, signed_arith, one_part}
use Rattle.dumpdates.proofs.Terms.{day_count-epoch, day_count-end, day_count-day, day_count-day_of_year, day_count-next_month, day_count-next_year, day_count-last_of_year, day_count-later_year, day_count_bounds, days_in_month_bounds}
use Rattle.dumpdates.proofs.Terms.{days_from_civil-day_count, last_second, Day, PlainMoment, day_after, day_numbered, IsMoment, seconds_at}
use Rattle.jiff_core.specs.declared.civil.date.Date.{Date}
use Rattle.jiff_core.proofs.DateLemmas.{civil, epoch_day_injective}

-- the day of this number, on the calendar of `jiff`
pub record IsNumbered (n : ℕ) (d : Day) : Type 0 where
  pub late : 1970 ≤ d.year
  pub civil : IsCivilDate (pos d.year) d.month d.day
  pub count : day_count (pos d.year) d.month d.day ≡ n + 4371953

in_month : (n : ℕ) (d : Day) → IsNumbered n d → d.day < days_in_month (pos d.year) d.month
    → IsNumbered (suc n) (record { year = d.year; month = d.month; day = d.day + 1 })
in_month n d h more = grind (arith, day_count-day (pos d.year) d.month d.day (d.day + 1))

in_year : (n : ℕ) (d : Day) → IsNumbered n d → days_in_month (pos d.year) d.month ≤ d.day → d.month < 12
    → IsNumbered (suc n) (record { year = d.year; month = d.month + 1; day = 1 })
in_year n d h last more =
    let y = pos d.year in grind (arith, day_count-next_month y d.month, day_count-day y d.month d.day 1, days_in_month_bounds y (d.month + 1))

-- no year after 9999 begins so early
in_range : (n y : ℕ) → n < 2932897 → day_count (pos y) 1 1 ≡ n + 4371953 → y ≤ 9999
in_range n y early count = grind (arith, signed_arith, day_count-end, day_count-later_year (pos 10000) (pos y))

after_december : (n : ℕ) (d : Day) → IsNumbered n d → days_in_month (pos d.year) d.month ≤ d.day → 12 ≤ d.month → n < 2932896
    → IsNumbered (suc n) (record { year = d.year + 1; month = 1; day = 1 })
after_december n d h last end early =
    let y = pos d.year in
    grind (arith, signed_arith, day_count-last_of_year y, day_count-next_year y (pos (d.year + 1)), in_range (suc n) (d.year + 1))

next_is_numbered : (n : ℕ) (d : Day) → IsNumbered n d → n < 2932896 → IsNumbered (suc n) (day_after d)
next_is_numbered n d h early =
    cond_both (ltb d.day (days_in_month (pos d.year) d.month)) _ _ (IsNumbered (suc n)) (λ more. in_month n d h (ltb-true _ _ more))
    (λ last. cond_both (ltb d.month 12) _ _ (IsNumbered (suc n)) (λ more. in_year n d h (ltb-false _ _ last) (ltb-true _ _ more))
    (λ end. after_december n d h (ltb-false _ _ last) (ltb-false _ _ end) early))

-- each day has its number
pub is_numbered : (n : ℕ) → n ≤ 2932896 → IsNumbered n (day_numbered n)
unfolding day_numbered
is_numbered zero h = grind (arith, signed_arith, day_count-epoch)
is_numbered (suc n) h = next_is_numbered n (day_numbered n) (is_numbered n (omega arith)) (omega arith)

-- the day number of `jiff`
pub days_from_1970 : (n : ℕ) → n ≤ 2932896 → let d = day_numbered n in days_from_civil (pos d.year) d.month d.day ≡ pos n
days_from_1970 n h =
    let i = is_numbered n h in let d = day_numbered n in omega (arith, signed_arith, days_from_civil-day_count (pos d.year) d.month d.day)

-- a date of `jiff` with this number is the day of this number
pub date_is_numbered : (n : ℕ) (date : Date) → n ≤ 2932896 → epoch_day date ≡ pos n
    → (date.year ≡ pos (day_numbered n).year) × (date.month ≡ (day_numbered n).month) × (date.day ≡ (day_numbered n).day)
date_is_numbered n date h e =
    let d = day_numbered n in let i = (is_numbered n h).civil in
    epoch_day_injective date (record { year = pos d.year; month = d.month; day = d.day; year_in = i.0; month_in = i.1; day_in = i.2 })
    (e ∙ sym (days_from_1970 n h))

-- 1 January 1970 is day 0
pub first_is_zero : (first : Date) → (first.year ≡ pos 1970) × (pos first.month ≡ pos 1) × (pos first.day ≡ pos 1) → epoch_day first ≡ pos 0
first_is_zero first h =
    let month : first.month ≡ 1 = cc in let day : first.day ≡ 1 = cc in
    rw (h.0, month, day) (omega (arith, signed_arith, days_from_civil-day_count (pos 1970) 1 1, day_count-epoch))

-- the days from 1 January 1970 on
count_from_1970 : (y : ℤ) (m d : ℕ) → IsCivilDate y m d → pos 1970 ≤ℤ y → 4371953 ≤ day_count y m d
count_from_1970 y m d h later = grind (arith, signed_arith, day_count-epoch, day_count-later_year (pos 1970) y, day_count-day_of_year y m d)

-- a date from 1970 on has no negative day number
pub epoch_day_from_1970 : (d : Date) → pos 1970 ≤ℤ d.year → pos 0 ≤ℤ epoch_day d
epoch_day_from_1970 d later = omega (arith, signed_arith, days_from_civil-day_count, count_from_1970 _ _ _ (civil d) later)

-- no moment is later than the last second
pub moment_bound : (m : PlainMoment) → IsMoment m → seconds_at m ≤ last_second
moment_bound m i =
    let y = pos m.year in let from = count_from_1970 y m.month m.day i.day (omega (arith, signed_arith)) in
    let to = day_count_bounds y m.month m.day i.day in
    omega (arith, signed_arith, days_from_civil-day_count y m.month m.day, one_part (days_from_civil y m.month m.day))

-- a date of `jiff` of this year, month and day
pub civil_of : (date : Date) (y m d : ℕ) → (date.year ≡ pos y) × (pos date.month ≡ pos m) × (pos date.day ≡ pos d) → IsCivilDate (pos y) m d
civil_of date y m d h = let month : date.month ≡ m = cc in let day : date.day ≡ d = cc in
    subst (λ z. IsCivilDate z m d) h.0 (rw (← month, ← day) (civil date))
