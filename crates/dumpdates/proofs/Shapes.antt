-- Lines that have the shape of an entry: their words, and what these mean.
use Rattle.dumpdates.proofs.Terms.{◌≡◌, ℕ, suc, ◌-◌, ◌<◌, Bool, true, false, List, [], ◌∷◌, get_or, take, drop, Some, None, IsUtf8, refl, arith, IsInRange, AllByRecursion, list_all, AllDigits, digits_value, All-from_recursion, recursion_from_All}
use Rattle.dumpdates.proofs.Terms.{AllPass-from_list_all, list_all-from_AllPass, digit_from_value, DatesEntry, IsName, IsEntry, words_of, is_space, AreSpaces, PlainWords, word_list, PlainFields, SpellsDigits, SpellsTime, SpellsWords, HasShape}
use Rattle.dumpdates.proofs.Terms.{SpellsLine, IsMoment, seconds_at, weekday_names, month_names, month_name, common_steps, both_ways}
use Rattle.std.proofs.lemmas.Str.{IsUtf8-from_ascii}
use Rattle.std.proofs.lemmas.Str.Ascii.{IsAscii-from_all}
use Rattle.dumpdates.proofs.Days.{moment_bound}
use Rattle.dumpdates.proofs.Digits.{below_power}
use Rattle.dumpdates.proofs.Cutting.{all_joined, all_weaker, AllPass, IsWord, AreWords, IsCutInto, line_is_cut, cut_is_line}
use Rattle.dumpdates.proofs.Naming.{month_of, one_month}
use Rattle.dumpdates.proofs.Timing.{spelled_is_time}

pub all_from_test : (p : ℕ → Bool) (xs : List ℕ) → list_all p xs ≡ true → AllPass p xs
all_from_test p xs h = recursion_from_All (λ b. p b ≡ true) xs (AllPass-from_list_all p xs h)

pub test_from_all : (p : ℕ → Bool) (xs : List ℕ) → AllPass p xs → list_all p xs ≡ true
test_from_all p xs h = list_all-from_AllPass p xs (All-from_recursion (λ b. p b ≡ true) xs h)

-- a name is text
pub name_is_text : (name : List ℕ) → IsName name → IsUtf8 name
name_is_text name h =
    IsUtf8-from_ascii name (IsAscii-from_all name
    (All-from_recursion (λ b. b < 128) name (all_weaker (IsInRange 33 126) (λ b. b < 128) (λ b i. omega (arith, i.1)) name h.1)))

-- digits are bytes from 33 to 126
pub digits_printed : (text : List ℕ) → AllDigits 10 text → AllByRecursion (IsInRange 33 126) text
digits_printed [] h = tt
digits_printed (b ∷ text) h = grind (arith, digits_printed text h.1, digit_from_value b h.0)

weekday_word : (day : ℕ) → day < 7 → IsWord (get_or weekday_names day [])
weekday_word day low = grind arith

month_word : (place : ℕ) → place < 12 → IsWord (get_or month_names place [])
month_word place low = grind arith

time_word : (word : List ℕ) (h m s : ℕ) → SpellsTime word h m s → IsWord word
time_word word h m s t = grind (arith, common_steps, all_joined (IsInRange 33 126), digits_printed)

digits_word : {least most n : ℕ} {text : List ℕ} → SpellsDigits (suc least) most text n → IsWord text
digits_word {text} s = (omega (arith, s.count), digits_printed text s.digits)

-- all seven are words
pub are_words : (w : PlainWords) (f : PlainFields) → SpellsWords w f → AreWords (word_list w)
unfolding month_name
are_words w f s =
    let name : IsWord w.name = (omega (arith, s.is_name.0), s.is_name.1) in
    let weekday : IsWord w.weekday = rw s.weekday.2 (weekday_word s.weekday.0 s.weekday.1) in
    let month : IsWord w.month = rw s.month.1 (month_word (f.moment.month - 1) (omega (arith, s.month.0))) in
    let time = time_word w.time f.moment.hour f.moment.minute f.moment.second s.time in
    (name, (digits_word s.level, (weekday, (month, (digits_word s.day, (time, (digits_word s.year, tt)))))))

abbrev plain : List ℕ → ℕ → ℕ → ℕ → ℕ → ℕ → ℕ → ℕ → PlainFields
plain name level year month day hour minute second =
    record { name = name; level = level; moment = record { year = year; month = month; day = day; hour = hour; minute = minute; second = second } }

-- what the words mean, if they mean anything
abbrev pub meaning : PlainWords → PlainFields
meaning w =
    plain w.name (digits_value 10 w.level) (digits_value 10 w.year) (month_of w.month) (digits_value 10 w.day)
    (digits_value 10 (take 2 w.time)) (digits_value 10 (take 2 (drop 3 w.time))) (digits_value 10 (drop 6 w.time))

pub one_meaning : (w : PlainWords) (f : PlainFields) → SpellsWords w f → f ≡ meaning w
one_meaning w f s =
    let m = f.moment in let time = spelled_is_time w.time m.hour m.minute m.second s.time in let month = one_month w.month m.month s.month in
    let same : plain f.name f.level m.year m.month m.day m.hour m.minute m.second ≡ meaning w = cc in same

pub cut_words : (line : List ℕ) (w : PlainWords) → words_of line ≡ Some w → IsCutInto line (word_list w)
unfolding words_of
cut_words line w e = grind (arith, all_from_test is_space)

words_cut : (line : List ℕ) (w : PlainWords) → IsCutInto line (word_list w) → words_of line ≡ Some w
unfolding words_of
words_cut line w c = grind (arith, test_from_all is_space)

-- a line of the shape of an entry is cut into words that spell its fields
pub shape_words : (line : List ℕ) (f : PlainFields) → HasShape line f → (w : PlainWords) × (words_of line ≡ Some w) × SpellsWords w f
shape_words line f (w, is, s) = (w, words_cut line w (line_is_cut line w.name _ (are_words w f s) is), s)

pub words_shape : (line : List ℕ) (w : PlainWords) (f : PlainFields) → words_of line ≡ Some w → SpellsWords w f → HasShape line f
words_shape line w f e s = (w, cut_is_line line w.name _ (are_words w f s) (cut_words line w e), s)

-- the entry of the shape, where the date is valid
pub found_entry : (line : List ℕ) (w : PlainWords) (f : PlainFields) (date : ℕ) → words_of line ≡ Some w → SpellsWords w f → IsMoment f.moment
    → date ≡ seconds_at f.moment → SpellsLine line (record { name = f.name; level = f.level; date = date })
found_entry line w f date e s moment same = (f, words_shape line w f e s, moment, rw same refl)

pub no_words : (line : List ℕ) → words_of line ≡ None → (f : PlainFields) → HasShape line f → ⊥
no_words line none f h = let s = shape_words line f h in cc

-- words that spell no fields
pub other_words : (line : List ℕ) (w : PlainWords) → words_of line ≡ Some w → ((f : PlainFields) → SpellsWords w f → ⊥) → (f : PlainFields)
    → HasShape line f → ⊥
other_words line w e never f h = grind (arith, shape_words line f h, never f)

pub not_blank : (line : List ℕ) → list_all is_space line ≡ false → AreSpaces line → ⊥
not_blank line f s = both_ways _ f (test_from_all is_space line s)

-- an entry that a line spells is one
pub spelled_is_entry : (line : List ℕ) (e : DatesEntry) → SpellsLine line e → IsEntry e
spelled_is_entry line e (f, (w, lined, words), moment, is) =
    let level = below_power w.level 1 words.level.digits words.level.count.1 in
    rw is (record { name = rw words.same_name words.is_name; level = omega (arith, level, words.level.value); date = moment_bound f.moment moment })
