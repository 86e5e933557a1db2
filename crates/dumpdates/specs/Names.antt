-- The English names of ctime(3). Public contracts depend on it through Text.
use Rattle.std.specs.Prelude.{ℕ, ◌-◌, List, [], ◌∷◌, codes, get_or, pos}
use Rattle.jiff_core.specs.Calendar.{weekday_number}

-- the names of the weekdays, from Monday on
abbrev pub weekday_names : List (List ℕ)
weekday_names = codes "Mon" ∷ codes "Tue" ∷ codes "Wed" ∷ codes "Thu" ∷ codes "Fri" ∷ codes "Sat" ∷ codes "Sun" ∷ []

-- the names of the months
abbrev pub month_names : List (List ℕ)
month_names =
    codes "Jan" ∷ codes "Feb" ∷ codes "Mar" ∷ codes "Apr" ∷ codes "May" ∷ codes "Jun"
    ∷ codes "Jul" ∷ codes "Aug" ∷ codes "Sep" ∷ codes "Oct" ∷ codes "Nov" ∷ codes "Dec" ∷ []

-- the name of the weekday of a day number; day 0 is 1 January 1970, a Thursday
unfoldable pub weekday_name : ℕ → List ℕ
weekday_name day = get_or weekday_names (weekday_number (pos day)) []

-- the name of a month; the first month is 1
unfoldable pub month_name : ℕ → List ℕ
month_name month = get_or month_names (month - 1) []
