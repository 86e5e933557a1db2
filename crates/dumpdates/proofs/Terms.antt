-- The names that most proofs of this crate cite, passed on from one place. Declares nothing.
pub use Rattle.dumpdates.specs.Dates.{base_of, entered, is_same, others}
pub use Rattle.dumpdates.specs.Entry.{AreEntries, DatesEntry, IsEntry, IsName, last_second}
pub use Rattle.dumpdates.specs.FoundLine.{IsAdded, IsLineRefused, plain_fields, plain_words}
unfoldable pub use Rattle.dumpdates.specs.Front.{after_spaces, after_word, first_word, words_of}
pub use Rattle.dumpdates.specs.Line.{AreParted, AreSpaces, HasShape, IsBadDate, IsBadLine, IsGap, IsLineOfWords, IsWeekday, PlainFields, PlainWords, SpellsDigits, SpellsLine, SpellsMonth, SpellsTime, SpellsWords, is_space, word_list}
pub use Rattle.dumpdates.specs.Lines.{HasDatesFault, IsEntryLine, IsReached, SpellLines, SpellsDates, lines_of}
pub use Rattle.dumpdates.specs.Moment.{Day, IsMoment, PlainMoment, day_after, moment_of, seconds_at}
unfoldable pub use Rattle.dumpdates.specs.Moment.{day_numbered}
pub use Rattle.dumpdates.specs.Names.{month_names, weekday_names}
unfoldable pub use Rattle.dumpdates.specs.Names.{month_name, weekday_name}
pub use Rattle.dumpdates.specs.Stored.{is_other, plain_all, plain_entry, plain_stored}
pub use Rattle.dumpdates.specs.Text.{colon, day_text, digit, line_feed, padded_name, space, time_text, two_digits, written}
unfoldable pub use Rattle.dumpdates.specs.Text.{ctime_text, line_text}
pub use Rattle.dumpdates.specs.declared.fault.DatesFault.{DatesFault}
pub use Rattle.dumpdates.specs.declared.fault.DatesFault.TheVariants.{BadDate, BadLine, OutOfMemory}
pub use Rattle.jiff_core.proofs.CalendarLemmas.{day_count-day, day_count-day_of_year, day_count-end, day_count-epoch, day_count-last_of_year, day_count-later_year, day_count-next_month, day_count-next_year, day_count_bounds}
pub use Rattle.jiff_core.proofs.CalendarLemmas.{days_from_civil-day_count, days_in_month_bounds, weekday_number-parts, weekday_number_bound}
pub use Rattle.jiff_core.proofs.SignedLemmas.{one_part, signed_arith, signed_casts}
pub use Rattle.jiff_core.specs.Calendar.{IsCivilDate, day_count, days_from_civil, days_in_month, weekday_number}
pub use Rattle.jiff_core.specs.Date.{epoch_day}
pub use Rattle.std.proofs.Common.{Bool, Bor, IsUtf8, List, None, Option, Some, [], add-one, ap, append_assoc, arith, bytes_eq, cond, decimal, drop, eqb, false, filter, get_or, inl, inr, length, length-append, ltb, map, max, min, not, pos, position}
pub use Rattle.std.proofs.Common.{refl, replicate, rules, set, string_bytes, subst, suc, sym, take, true, unsigned_abs, w16, w8, zero, ℕ, ℤ, ◌%◌, ◌++◌, ◌+◌, ◌-◌, ◌/◌, ◌<◌, ◌^◌, ◌∙◌, ◌∷◌, ◌≡◌, ◌≤ℤ◌, ◌≤◌, ◌⊎◌}
pub use Rattle.std.proofs.Math.Seq.{drop-append_seam, take-append-add, take-append_seam}
pub use Rattle.std.proofs.lemmas.Bool.{OnTrue_at, agree_below_at, and_from, and_parts, both_ways, cases_eq, cases_lt, cond-true, cond_both, eq-eqb, eqb-true, false≢true, lt-ltb, ltb-false, ltb-true, not_from_false, not_from_true}
pub use Rattle.std.proofs.lemmas.Bool.Decides.{nat_tests}
pub use Rattle.std.proofs.lemmas.Fmt.{decimal_digit, decimal_is_IsNumeral, length-decimal-le}
pub use Rattle.std.proofs.lemmas.Grind.{common_steps}
pub use Rattle.std.proofs.lemmas.List.{append-nil, drop-replicate, drop_all, get_or_default, length-drop, length-replicate, length-take-le, take-append-drop, take_all, take_rest}
pub use Rattle.std.proofs.lemmas.List.Elements.{All-from_recursion, recursion_from_All}
pub use Rattle.std.proofs.lemmas.List.Filters.{FiltersInPlace, FiltersInPlace-more_no, FiltersInPlace-more_swap}
pub use Rattle.std.proofs.lemmas.List.Folds.{Any-from_list_any, list_any_at}
pub use Rattle.std.proofs.lemmas.List.Quantifiers.{position-Some}
pub use Rattle.std.proofs.lemmas.List.Splits.{slice_split_at, slice_split_first, slice_split_none}
pub use Rattle.std.proofs.lemmas.List.Sums.{AllPass-from_list_all, fails_before_first, list_all-from_AllPass, prefix_len-le-length}
pub use Rattle.std.proofs.lemmas.Result.{err_from_is_err_and}
pub use Rattle.std.proofs.lemmas.Slice.Eq.{bytes_eq-Decides}
pub use Rattle.std.proofs.lemmas.Str.Parse.{digit_at, digit_from_value, digits_value_short, numerals_by_value, tells_digits}
pub use Rattle.std.specs.Char.{digit_value}
pub use Rattle.std.specs.Int.{IsInRange}
pub use Rattle.std.specs.List.{AllByRecursion, list_all, list_any, position_or_len, prefix_len}
pub use Rattle.std.specs.Str.Parse.{AllDigits, digits_value}
