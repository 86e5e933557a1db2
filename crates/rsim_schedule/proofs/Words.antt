-- The words of std and of the specs that these proofs use, from one place.
pub use Rattle.std.proofs.Common.{Bool, Err, IfErr, List, None, Ok, OnOk, Option, Result, Some, [], ap, append-nil, append_assoc, arith, codes, drop, false, get_or, inl, inr, length, length-append, map, refl, rules, subst, suc, sym, take, true, zero, ℕ, ◌++◌, ◌+◌, ◌<◌, ◌==◌, ◌∙◌, ◌∷◌, ◌≡◌, ◌≢◌, ◌≤◌}
pub use Rattle.std.proofs.lemmas.List.{drop_more, flat_map_more, map-append, take-append-drop, take_all, take_more, take_rest}
pub use Rattle.std.proofs.lemmas.Result.{err_from_is_err_and}
pub use Rattle.std.proofs.lemmas.Simd.{map-map}
pub use Rattle.std.specs.List.{flat_map}
pub use Rattle.std.specs.Prelude.{slice_get, slice_index_or, unwrap_or}
pub use Rattle.drives.specs.ListLibrary.{rest_slot}
pub use Rattle.drives.specs.TapeLibrary.{Drive, KeptReel, ReelSlot, TapeLibrary, drive_with, names_of}
pub use Rattle.rdump_net.proofs.Printed.{nothing_printed, printed_both}
pub use Rattle.rmt_wire.specs.Counted.{Counting}
pub use Rattle.rsim_schedule.specs.Cut.{left_in}
pub use Rattle.rsim_schedule.specs.Drives.{plain_line}
pub use Rattle.rsim_schedule.specs.Playing.{IsPlayed, Plays, failed_line, is_whole, none as no_play, one_more as play_more}
pub use Rattle.rsim_schedule.specs.Report.{count_line, entries_of_reel, entry_text, length_text, names_text, reel_line, report_text, stack_line, stack_of}
pub use Rattle.rsim_schedule.specs.declared.halt.Halt.{Halt}
pub use Rattle.rsim_schedule.specs.declared.halt.Halt.TheVariants.{StreamFailed}
pub use Rattle.tape_world.specs.Running.{IsStopped, plain_event}
pub use Rattle.tape_world.specs.Telling.{IsStackOf, plain_count}
pub use Rattle.world_model.specs.First.{AreGoodDrives, PlainDriveSpec, first_world}
pub use Rattle.world_model.specs.World.{Count, World}
