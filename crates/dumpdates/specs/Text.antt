-- How dumpdates is written: a line for each entry, with its date as ctime(3) prints it. Public
-- contracts cite it.
use Rattle.std.specs.Prelude.{ℕ, ◌+◌, ◌-◌, ◌/◌, ◌%◌, if◌then◌else◌, nat_lt, List, [], ◌∷◌, ◌++◌, length, replicate, flat_map, decimal}
use Rattle.dumpdates.specs.Entry.{DatesEntry}
use Rattle.dumpdates.specs.Moment.{PlainMoment, moment_of}
use Rattle.dumpdates.specs.Names.{weekday_name, month_name}

-- the byte LF
abbrev pub line_feed : ℕ
line_feed = 10

-- the byte of a space
abbrev pub space : ℕ
space = 32

-- the byte of a colon
abbrev pub colon : ℕ
colon = 58

-- a number below 10 as its digit
abbrev pub digit : ℕ → ℕ
digit n = 48 + n

-- a number below 100 as two digits
abbrev pub two_digits : ℕ → List ℕ
two_digits n = digit (n / 10) ∷ digit (n % 10) ∷ []

-- a day of a month in two bytes, with a space in place of a leading 0
abbrev pub day_text : ℕ → List ℕ
day_text n = if nat_lt n 10 then space ∷ digit n ∷ [] else two_digits n

-- the weekday of a date, and a month and a day, with a space after each
abbrev pub day_words : ℕ → PlainMoment → List ℕ
day_words date m =
    ((weekday_name (date / 86400) ++ space ∷ []) ++ (month_name m.month ++ space ∷ [])) ++ (day_text m.day ++ space ∷ [])

-- hh:mm:ss
abbrev pub time_text : PlainMoment → List ℕ
time_text m = two_digits m.hour ++ (colon ∷ (two_digits m.minute ++ (colon ∷ two_digits m.second)))

-- Www Mmm dd hh:mm:ss yyyy
unfoldable pub ctime_text : ℕ → List ℕ
ctime_text date =
    let m = moment_of date in
    weekday_name (date / 86400)
    ++ (space ∷ (month_name m.month ++ (space ∷ (day_text m.day ++ (space ∷ (time_text m ++ (space ∷ decimal m.year)))))))

-- the byte of a hyphen
abbrev pub hyphen : ℕ
hyphen = 45

-- yyyy-mm-dd
abbrev pub utc_day : PlainMoment → List ℕ
utc_day m = decimal m.year ++ (hyphen ∷ (two_digits m.month ++ (hyphen ∷ two_digits m.day)))

-- yyyy-mm-dd hh:mm:ss
unfoldable pub utc_text : ℕ → List ℕ
utc_text date = utc_day (moment_of date) ++ (space ∷ time_text (moment_of date))

-- a name padded with spaces to 32 bytes, or unchanged if it is longer
abbrev pub padded_name : List ℕ → List ℕ
padded_name name = name ++ replicate (32 - length name) space

-- the name, a space, the level, a space, the date, and a line feed
unfoldable pub line_text : DatesEntry → List ℕ
line_text e = padded_name e.name ++ (space ∷ digit e.level ∷ space ∷ (ctime_text e.date ++ line_feed ∷ []))

-- the text that is written for these entries
abbrev pub written : List DatesEntry → List ℕ
written entries = flat_map line_text entries
