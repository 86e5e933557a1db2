-- Dates and times of day in UTC, from 1970 to 9999, in the calendar of `jiff`. Public contracts
-- cite it.
use Rattle.std.specs.Prelude.{ℕ, zero, suc, ◌+◌, ◌*◌, ◌/◌, ◌%◌, ◌≤◌, if◌then◌else◌, nat_lt, pos, unsigned_abs}
use Rattle.std.specs.Int.{IsInRange}
use Rattle.jiff_core.specs.Calendar.{IsCivilDate, days_from_civil, days_in_month}

-- a date and a time of day, which need not be valid
pub record PlainMoment : Type 0 where
  pub year : ℕ
  pub month : ℕ
  pub day : ℕ
  pub hour : ℕ
  pub minute : ℕ
  pub second : ℕ

-- the calendar has this day in a year from 1970 to 9999, and the time of day is valid
pub record IsMoment (m : PlainMoment) : Type 0 where
  pub year : IsInRange 1970 9999 m.year
  pub day : IsCivilDate (pos m.year) m.month m.day
  pub hour : m.hour ≤ 23
  pub minute : m.minute ≤ 59
  pub second : m.second ≤ 59

-- the seconds since 1970 began: 86,400 for each day since 1 January 1970, and those of the time of
-- day
abbrev pub seconds_at : PlainMoment → ℕ
seconds_at m = 86400 * unsigned_abs (days_from_civil (pos m.year) m.month m.day) + (3600 * m.hour + 60 * m.minute + m.second)

-- a day of the calendar
pub record Day : Type 0 where
  pub year : ℕ
  pub month : ℕ
  pub day : ℕ

-- the next day: the next of the month, or the first of the next month, or 1 January of the next
-- year
abbrev pub day_after : Day → Day
day_after d =
    if nat_lt d.day (days_in_month (pos d.year) d.month) then record { year = d.year; month = d.month; day = d.day + 1 }
    else if nat_lt d.month 12 then record { year = d.year; month = d.month + 1; day = 1 }
    else record { year = d.year + 1; month = 1; day = 1 }

-- the day with this number: day 0 is 1 January 1970, and each later one is the day after the one
-- before
unfoldable pub day_numbered : ℕ → Day
day_numbered zero = record { year = 1970; month = 1; day = 1 }
day_numbered (suc n) = day_after (day_numbered n)

-- the date and the time of day that are so many seconds after 1970 began
abbrev pub moment_of : ℕ → PlainMoment
moment_of date = record {
  year = (day_numbered (date / 86400)).year;
  month = (day_numbered (date / 86400)).month;
  day = (day_numbered (date / 86400)).day;
  hour = date % 86400 / 3600;
  minute = date % 3600 / 60;
  second = date % 60;
}
