-- The words of std and of the specs that these proofs use, from one place.
pub use Rattle.std.proofs.Common.{Bool, Bor, Err, IfErr, IfOk, List, Ok, Result, [], ap, ap₂, arith, codes, false, get_or, inl, inr, length, map, refl, rules, subst, sym, take, take_all, true, true≢false, ℕ, ◌++◌, ◌+◌, ◌<◌, ◌∙◌, ◌∷◌, ◌≡◌, ◌≢◌}
pub use Rattle.std.proofs.lemmas.Grind.{common_steps}
pub use Rattle.std.proofs.lemmas.Result.{IfOk-weaker}
pub use Rattle.std.proofs.lemmas.Simd.{map-map}
pub use Rattle.std.specs.List.{All, AllPairs, list_any}
pub use Rattle.clap.proofs.WalkLemmas.{first_value-rows, raw_values-rows}
pub use Rattle.clap.specs.Words.{App, FailsBy, HasKind, IsAmong, Kinds, Text, app_of, fault_of, found_of, is_simple, is_simple_and_free, kind_of, matches_of, new_app, with_rule}
pub use Rattle.rmtd_args.specs.Drive.{IsDrive, PlainDrive, plain_drive, split_of}
pub use Rattle.rmtd_args.specs.Rmtd.{IsShown, app_with_limits, app_with_ways, flag_rule, option_rule, with_version}
unfoldable pub use Rattle.rmtd_args.specs.Rmtd.{app, faults_in, matches_in}
