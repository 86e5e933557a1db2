-- The words, definitions and lemmas that the proofs of this crate share: those of std and of the crates below, and the definitions of this crate.
pub use Rattle.drives.proofs.Arranging.{any_lent, names_from, repeated_is}
pub use Rattle.drives.proofs.Shops.{any_count}
pub use Rattle.drives.specs.Arranging.{reel_named}
pub use Rattle.drives.specs.ListLibrary.{IsDriveAdded, IsLibrary, IsReelAdded, ListLibrary, StacksCanFail, blank_reel, library_of, rest_drive, rest_slot, with_drive, with_reel}
pub use Rattle.drives.specs.TapeLibrary.{LibraryOf}
pub use Rattle.drives.specs.declared.fault.DriveFault.{DriveFault}
pub use Rattle.dump_client.specs.Client.{ClientHeld, HasFed, IsPayload, IsShapedAs, NextRequestAt, ReadAt, ReadBy, TellsEntry}
pub use Rattle.dump_client.specs.Standing.{StartedAt, state_of}
pub use Rattle.dump_client.specs.declared.fault.AttemptFault.TheVariants.{SourceFault}
pub use Rattle.dump_run.specs.Blocks.{AreBlocksOf, ListedBlocks, ListedRead, listed}
pub use Rattle.dump_run.specs.Checkpoint.{SpellsCheckpoint}
pub use Rattle.dumpdates.specs.Stored.{plain_entry}
pub use Rattle.std.proofs.Common.{Global, OnOk, Vec, add-one, drop-cons, drop-drop, is_err, min, option_copied, rules, unwrap_or}
pub use Rattle.std.proofs.lemmas.Grind.{common_steps}
pub use Rattle.std.proofs.lemmas.List.{get_or-map, set_at, take_more}
pub use Rattle.std.proofs.lemmas.List.Concat.{flat_map-cons}
pub use Rattle.std.proofs.lemmas.List.Folds.{Any-from_list_any, flat_map-map, list_any-append}
pub use Rattle.std.proofs.lemmas.Option.{slice_get-map, slice_get_past}
pub use Rattle.std.proofs.lemmas.Result.{IfOk-weaker, on_err_weaker, on_ok_weaker}
pub use Rattle.std.proofs.lemmas.Simd.{map-map}
pub use Rattle.std.specs.List.{position_or_len}
pub use Rattle.std.specs.Option.{option_or}
pub use Rattle.tape.specs.Trouble.{TroubledTape}
pub use Rattle.world_host.specs.Servers.{HasRoom, Hosted, IsPiecePushed, hosted, side_at}
pub use Rattle.world_host.specs.Turns.{Carries, GivesFault, GivesNothing, ServesAt, TurnsSide, asked_of, carried_of, with_back}
pub use Rattle.world_host.specs.declared.turn.Turn.{Turn}
pub use Rattle.tape_world.specs.Calling.{ClientAnswers, ClientSeesEnd as SeesItsEnd, IsBegunWith, IsReady, IsSameRun, Starts}
pub use Rattle.tape_world.specs.Entries.{AreOpenThere, entries_on, first_tape_online, named_tape_in, tape_online}
pub use Rattle.tape_world.specs.Hearing.{HasHeard, IsAttempting, heard_on, history_count, is_over, own_after}
pub use Rattle.tape_world.specs.Holding.{IsBacked, IsEvent, IsSourced}
pub use Rattle.tape_world.specs.Making.{blank_slots, laid_drive, laid_library, names_again, plain_drive_spec, reel_again, reels_of, with_laid, with_slots}
pub use Rattle.tape_world.specs.Running.{IsEventRefused, IsStopped, LeavesInOrder, fault_at, fault_place, plain_event}
pub use Rattle.tape_world.specs.Saving.{IsEnteredIn, IsKeptOf, ResumesRunWith, kept_then}
pub use Rattle.tape_world.specs.Seen.{HistoryHeld, IsSameHistory, name_at, seen_begun, seen_caller, seen_entered, seen_kept, seen_opening, seen_writing, world_of}
pub use Rattle.tape_world.specs.Serving.{IsLibraryKnown, IsNoted, IsOnlineIn, TurnServes, name_opened_by, name_written_by, opened_in, written_in}
pub use Rattle.tape_world.specs.Talking.{AskedOf, Asks, IsToSend, talked}
pub use Rattle.tape_world.specs.Telling.{IsGreatest, IsOnWay}
pub use Rattle.tape_world.specs.contracts.world_state.WorldState.{the_view}
pub use Rattle.tape_world.specs.declared.caller.Begun.{Begun as RealBegun}
pub use Rattle.tape_world.specs.declared.caller.WorldClient.{WorldClient as RealCaller}
pub use Rattle.tape_world.specs.declared.drive_spec.DriveSpec.{DriveSpec}
pub use Rattle.tape_world.specs.declared.history.Entered.{Entered as RealEntered}
pub use Rattle.tape_world.specs.declared.stop.EventStop.{EventStop}
pub use Rattle.world_host.proofs.Linked.{put_connection, put_same}
pub use Rattle.world_host.specs.Connection.{noted_turn, plain_connection}
pub use Rattle.world_model.proofs.Basics.{Bool, Contains, Contains-append_left, Contains-push, Err, IsTrue, List, None, Ok, Option, Result, Some, [], ap, append-nil, append_assoc, arith, bytes_eq, bytes_eq-Decides, cond, decimal, drop, false, flat_map, get_or, get_or-set_same, get_or_from_slice_get, inl, inr, length, length-append, length-decimal-le, length-drop, length-map, length-set, list_any, map, map-append, nat_tests, not, option_and_then, option_map, option_to_list, refl, replicate, same_Some, set-get_or, set-set, slice_get, slice_get-get_or, slice_get_within, slice_index_or, slice_set}
pub use Rattle.world_model.proofs.Basics.{subst, suc, sum_by, sum_by-append, sum_by-cons, sym, take, take-append-drop, take_all, true, zero, ℕ, ◌&&◌, ◌++◌, ◌+◌, ◌-◌, ◌<◌, ◌==◌, ◌||◌, ◌↔◌, ◌∙◌, ◌∷◌, ◌≡◌, ◌≢◌, ◌≤◌, ◌⊎◌}
pub use Rattle.world_model.proofs.Ground.{among_at, drop_front, numbered_last, pushed_is}
pub use Rattle.world_model.proofs.Terms.{Answer, AreFaultless, AreGoodDrives, AreHeld, AreLaid, Arrange, Asking, AttemptFault, AttemptState, Connection, Count, CountedReels, Drive, EachReelOnce, EndAtServer, Entered, FedAt, Finished, Happens, HasFedAt, HasInDrive, HasSpelling, Hears, IsClients, IsDriveNamed, IsFirstAway, IsOwned, IsReadable, IsTextOf, IsWorldKept, KeptReel, NoTwoHolders, Open, Opening, OwnOpens, PlainDriveSpec, PlainEntry, PlainEvent, PlainReply, PlainRequest, PlainRun, PlainSession, Possible, Progress, READER_LIMIT, ReelHolds, ReelLiesIn, ReelLiesOn, ReelSlot, ReelsNotReopened}
pub use Rattle.world_model.proofs.Terms.{ReplyHeld, RequestHeld, ResumesRun, Runs, SameNames, SeesEnd, Send, Sends, SentRequests, Serve, ServerConnection, ServerRestart, ServerState, SessionView, Stage, Standing, Step, Tape, TapeLibrary, ToClient, ToSend, ToServer, Trouble, TroubledServeStep, Unread, VolumeCount, VolumesInOrder, Waiting, WireFault, World, WorldClient, all_ended, answered, are_distinct, bit, blank_drive, caller, carried, changed, checkpoint_of, connection_of, counts_of, cut_blocks, drive_at, drive_in, drive_with, ended, ended_at, ended_from, entered, entries_of, first_name}
pub use Rattle.world_model.proofs.Terms.{first_world, forgotten_from, fresh, heard_as, is_failing, is_in_attempt, kept_after, kept_reel, library, list_in, named, names_in, none, numbered, one_more, online_drive_in, opened_reel, opening, reel_opened_by, reel_written, reply_held, request_of, request_text, restarted, server, session_view, side, side_of, slot, slots_in, stage_after, standing, sum_by_with_drive, times, times_named, with_drive_at, with_no_failure, with_numbered, without_peer, without_server, writing}
pub use Rattle.world_model.specs.First.{IsReached}
pub use Rattle.world_model.specs.Rows.{HasRoomFor, StandsIn}
pub use Rattle.world_model.specs.Steps.{entry_of}
