-- Passes on what the proofs name of std: numbers, lists, options, and the laws about them.
pub use Rattle.std.proofs.Common.{◌≡◌, ◌≢◌, ◌==◌, ℕ, zero, suc, ◌+◌, ◌<◌, ◌≤◌, Bool, List, [], ◌∷◌, ◌++◌, length, map, take, drop, Contains, Option, Some, None, refl, sym, ap, subst, ◌∙◌, inl, inr, arith, length-append, ◌⊎◌, ◌-◌, if◌then◌else◌, true, false, Ok, Err, MatchOption, IsTrue, append_assoc, option_map, Result, nat_lt, flat_map, cond, ◌||◌, ◌^◌, ◌*◌, not, ◌&&◌, replicate, decimal, ◌↔◌}
pub use Rattle.std.proofs.lemmas.Bool.{eq-eqb, ne_eqb}
pub use Rattle.std.proofs.lemmas.Bool.Decides.{eqb_tells, nat_tests}
pub use Rattle.std.proofs.lemmas.Fmt.{length-decimal-le, decimal_is_IsNumeral}
pub use Rattle.std.proofs.lemmas.List.{append-nil, nil_from_length, map-append, length-replicate, length-set, length-map, take-append-drop, get_or-set_same, get_or-set_other, take_all, set-set, set-get_or, length-take, take_at, length-take-le, length-drop, take-append-le, drop-append-le}
pub use Rattle.std.proofs.lemmas.List.Elements.{Contains-push_cases, Contains-append_cases, Contains-append_left, Contains-append_right, Contains-push}
pub use Rattle.std.proofs.lemmas.List.Sums.{sum_by-append, sum_by-cons}
pub use Rattle.std.proofs.lemmas.Option.{same_Some, slice_get_within, get_or_from_slice_get, slice_get-get_or}
pub use Rattle.std.proofs.lemmas.Slice.Eq.{bytes_eq-Decides}
pub use Rattle.std.specs.Char.{digit_value}
pub use Rattle.std.specs.List.{sum_by, find, cons_option, list_any}
pub use Rattle.std.specs.Prelude.{option_and_then, get_or, slice_get, option_to_list, slice_set, slice_index_or}
pub use Rattle.std.specs.Set.{remove_key}
pub use Rattle.std.specs.Str.{bytes_eq}
pub use Rattle.std.specs.Str.Parse.{AllDigits}
