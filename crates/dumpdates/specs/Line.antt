-- A line of dumpdates: blank, an entry, or bad. An entry is seven words: the name, the level, and
-- the five of a date as ctime(3) prints it. A word of a line is a row of bytes without spaces and
-- tabs. Public contracts depend on it through Lines.
use Rattle.std.specs.Prelude.{◌≡◌, ℕ, ◌<◌, Bool, true, ◌==◌, ◌||◌, List, [], ◌∷◌, ◌++◌, length, get_or}
use Rattle.std.specs.Int.{IsInRange}
use Rattle.std.specs.List.{AllByRecursion}
use Rattle.std.specs.Str.Parse.{AllDigits, digits_value}
use Rattle.dumpdates.specs.Entry.{DatesEntry, IsName}
use Rattle.dumpdates.specs.Moment.{PlainMoment, IsMoment, seconds_at}
use Rattle.dumpdates.specs.Names.{weekday_names, month_name}
use Rattle.dumpdates.specs.Text.{space, colon}

-- the byte of a tab
abbrev pub tab : ℕ
tab = 9

-- the byte is a space or a tab
abbrev pub is_space : ℕ → Bool
is_space b = b == space || b == tab

-- the bytes are only spaces and tabs, or there are none
abbrev pub AreSpaces : List ℕ → Type 0
AreSpaces bytes = AllByRecursion (λ b. is_space b ≡ true) bytes

-- the gap is one or more spaces or tabs
abbrev pub IsGap : List ℕ → Type 0
IsGap gap = (0 < length gap) × AreSpaces gap

-- the text is these words in their order, with a gap between each two
abbrev pub AreParted : List ℕ → List (List ℕ) → Type 0
AreParted text [] = text ≡ []
AreParted text (word ∷ []) = text ≡ word
AreParted text (word ∷ next ∷ words) =
    (gap rest : List ℕ) × IsGap gap × (text ≡ word ++ (gap ++ rest)) × AreParted rest (next ∷ words)

-- the line is these words, perhaps with spaces or tabs before the first and after the last
pub record IsLineOfWords (line : List ℕ) (words : List (List ℕ)) : Type 0 where
  pub before : List ℕ
  pub text : List ℕ
  pub after : List ℕ
  pub spaces_before : AreSpaces before
  pub spaces_after : AreSpaces after
  pub parted : AreParted text words
  pub joined : line ≡ before ++ (text ++ after)

-- the words of an entry's line
pub record PlainWords : Type 0 where
  pub name : List ℕ
  pub level : List ℕ
  pub weekday : List ℕ
  pub month : List ℕ
  pub day : List ℕ
  pub time : List ℕ
  pub year : List ℕ

-- the words in their order
abbrev pub word_list : PlainWords → List (List ℕ)
word_list w = w.name ∷ w.level ∷ w.weekday ∷ w.month ∷ w.day ∷ w.time ∷ w.year ∷ []

-- the text has `least` to `most` digits, which spell n
pub record SpellsDigits (least most : ℕ) (text : List ℕ) (n : ℕ) : Type 0 where
  pub digits : AllDigits 10 text
  pub count : IsInRange least most (length text)
  pub value : digits_value 10 text ≡ n

-- the word is the name of a weekday, no matter which
abbrev pub IsWeekday : List ℕ → Type 0
IsWeekday word = (day : ℕ) × (day < 7) × (word ≡ get_or weekday_names day [])

-- the word is the name of this month
abbrev pub SpellsMonth : List ℕ → ℕ → Type 0
SpellsMonth word month = IsInRange 1 12 month × (word ≡ month_name month)

-- the word is hh:mm:ss
pub record SpellsTime (word : List ℕ) (h m s : ℕ) : Type 0 where
  pub hours : List ℕ
  pub minutes : List ℕ
  pub seconds : List ℕ
  pub hour : SpellsDigits 2 2 hours h
  pub minute : SpellsDigits 2 2 minutes m
  pub second : SpellsDigits 2 2 seconds s
  pub joined : word ≡ hours ++ (colon ∷ (minutes ++ (colon ∷ seconds)))

-- what a line's words spell, with a date that need not be valid
pub record PlainFields : Type 0 where
  pub name : List ℕ
  pub level : ℕ
  pub moment : PlainMoment

-- the words spell a name, a level, a weekday, a month, a day, a time and a year, with these values
pub record SpellsWords (w : PlainWords) (f : PlainFields) : Type 0 where
  pub is_name : IsName w.name
  pub same_name : f.name ≡ w.name
  pub level : SpellsDigits 1 1 w.level f.level
  pub weekday : IsWeekday w.weekday
  pub month : SpellsMonth w.month f.moment.month
  pub day : SpellsDigits 1 2 w.day f.moment.day
  pub time : SpellsTime w.time f.moment.hour f.moment.minute f.moment.second
  pub year : SpellsDigits 4 4 w.year f.moment.year

-- the line has the shape of an entry, and its words spell these values
abbrev pub HasShape : List ℕ → PlainFields → Type 0
HasShape line f = (w : PlainWords) × IsLineOfWords line (word_list w) × SpellsWords w f

-- the line is this entry: it has the shape of one, and its date is valid
abbrev pub SpellsLine : List ℕ → DatesEntry → Type 0
SpellsLine line e =
    (f : PlainFields) × HasShape line f × IsMoment f.moment × (e ≡ record { name = f.name; level = f.level; date = seconds_at f.moment })

-- the line is not blank and does not have the shape of an entry
abbrev pub IsBadLine : List ℕ → Type 0
IsBadLine line = ¬ AreSpaces line × ((f : PlainFields) → ¬ HasShape line f)

-- the line has the shape of an entry, but its date is not valid
abbrev pub IsBadDate : List ℕ → Type 0
IsBadDate line = (f : PlainFields) × HasShape line f × ¬ IsMoment f.moment
