-- The names that most proofs of this crate cite, passed on from one place. Declares nothing.
pub use Rattle.std.proofs.Common.{◌≡◌, flat_map, map, set, vec_capacity, Some, None, refl, ap, arith, ◌+◌, ◌≤◌}
pub use Rattle.drives.specs.Arranging.{IsArranged, are_distinct, arranged, is_among, is_piled, is_repeated, left, may_arrange, picked, pile_of, reel_named}
pub use Rattle.drives.specs.Arranging.{slot_named, without}
pub use Rattle.drives.specs.Calls.{StacksCall, StacksKind, drive_latched, drive_left, moved_result, stacks_kind}
pub use Rattle.drives.specs.Calls.StacksCall.{Latch, LayBack, Move}
pub use Rattle.drives.specs.Holding.{HoldsJust, given, has, holder_after_give, holder_after_take, last_drive, moved, newcomer, taken}
pub use Rattle.drives.specs.ListLibrary.{IsDriveAdded, IsLibrary, IsListStacksCall, IsReelAdded, IsReelLatched, IsStocked, ListLibrary, MovesTroubles, StacksCanFail}
pub use Rattle.drives.specs.ListLibrary.{after_failure, at_rest, blank_reel, is_set_in, library_of, rest_drive, rest_slot, with_library, with_reel}
pub use Rattle.drives.specs.Local.{AreHolders, Holders, IsHeldBy, IsSeatOf, holders}
pub use Rattle.drives.specs.Opening.{Kinds, LatchesFor, OpenStep, SeatStep, drive_asked, found_in_open, kinds}
pub use Rattle.drives.specs.Stacking.{HasLatched, IsStacksCall, LibraryStep}
pub use Rattle.drives.specs.TapeLibrary.{Drive, EachReelOnce, IsDriveNamed, LibraryOf, ReelSlot, TapeLibrary, at_first, drive_at}
pub use Rattle.drives.specs.TapeLibrary.{drive_with, first_reel, latched_at, latched_on, library, names_in, names_of, slot, slots_in, times, to_bin}
pub use Rattle.drives.specs.TapeLibrary.{waiting_reel, with_drive_at, with_first}
pub use Rattle.drives.specs.contracts.list.ListStacks.{the_view}
pub use Rattle.drives.specs.declared.fault.DriveFault.{DriveFault}
pub use Rattle.drives.specs.declared.fault.DriveFault.TheVariants.{Busy, Device, NameTaken, NoSuchDrive}
pub use Rattle.drives.specs.declared.holds.TheConstants.{DRIVE_LIMIT}
pub use Rattle.drives.specs.declared.view.LastStep.{LastStep}
pub use Rattle.drives.specs.declared.view.View.{View}
pub use Rattle.std.proofs.Math.ListN.{get_or-map, length-set}
pub use Rattle.std.proofs.lemmas.Bool.{ltb-true}
pub use Rattle.std.proofs.lemmas.Grind.{common_steps}
pub use Rattle.std.proofs.lemmas.List.{append-nil, drop-drop, drop-map, drop_more, get_or-replicate, get_or-set_same, get_or_default, get_or_past, length-drop}
pub use Rattle.std.proofs.lemmas.List.{length-map, length-replicate, map-append, map-set, set-get_or, set-set, take_all}
pub use Rattle.std.proofs.lemmas.List.Folds.{find-append, find_at, list_all-map, list_any-append}
pub use Rattle.std.proofs.lemmas.List.Sums.{sum_by-append, sum_by-cons, sum_by-set, sum_by_push}
pub use Rattle.std.proofs.lemmas.Slice.Eq.{bytes_eq-Decides}
pub use Rattle.std.specs.List.{count_by, find, list_all, list_any, position_from, position_or_len, sum_by}
pub use Rattle.std.specs.Option.{option_copied, option_map}
pub use Rattle.std.specs.Str.{bytes_eq}
pub use Rattle.tape.specs.Failures.{Steps}
pub use Rattle.tape.specs.Trouble.{TroubledTape}
pub use Rattle.tape.specs.contracts.troubled.TroubledReelReel.TheImpl.{ghosts as of_reel}
