-- Passes on the terms that the proofs name: of requests and replies, drives and sessions, dumps and their steps, and worlds.
pub use Rattle.drives.proofs.Arranging.{times_arranged}
pub use Rattle.drives.proofs.Shops.{bit, named, times_named, sum_by_with_drive}
pub use Rattle.drives.specs.Arranging.{arranged, picked, left, slot_named, without, pile_of, are_distinct}
pub use Rattle.drives.specs.ListLibrary.{is_set}
pub use Rattle.drives.specs.TapeLibrary.{KeptReel, ReelSlot, TapeLibrary, kept_reel, slot, names_of, drive_with, drive_at, with_drive_at, slots_in, EachReelOnce, waiting_reel, after_latch, Drive, library, with_first, to_bin, first_reel, after_offline, IsDriveNamed, names_in, times, at_first}
pub use Rattle.drives.specs.declared.fault.DriveFault.TheVariants.{NoSuchDrive, Busy, NoReel, Device}
pub use Rattle.dump_client.proofs.Received.{HeardAs, heard_as, over_can, IsAtRest, outcome_can}
pub use Rattle.dump_client.specs.Client.{HasFedAt, unanswered}
pub use Rattle.dump_client.specs.Going.{GoesOnWith, AgreesWithProgress}
pub use Rattle.dump_client.specs.Lawful.{IsLawful, StageFits, attempt_at, steps_before, blocks_from, IsUnfinishedRun}
pub use Rattle.dump_client.specs.Listening.{IsReaderWaiting, is_more}
pub use Rattle.dump_client.specs.Position.{Covers, after_reply, after_done, after_step, after_noise, after_write, after_error, at_end_of_reel, block_or_mark, wanted_outcome}
pub use Rattle.dump_client.specs.Position.Received.{Reply}
pub use Rattle.dump_client.specs.Script.{wanted_of, counted_label, request_of}
pub use Rattle.dump_client.specs.Standing.{Standing, standing, FedAt, CutAt, IsOver, stage_after, checkpoint_of, count_to, counted_to, ReceivesAt, IsAtStep, Makes, Becomes}
pub use Rattle.dump_client.specs.declared.fault.AttemptFault.{AttemptFault}
pub use Rattle.dump_client.specs.declared.stage.Answer.{Answer}
pub use Rattle.dump_client.specs.declared.stage.Progress.{Progress}
pub use Rattle.dump_client.specs.declared.stage.Stage.{Stage}
pub use Rattle.dump_client.specs.declared.stage.Stage.TheVariants.{Ready, ToSend, Waiting, Asking, Finished}
pub use Rattle.dump_client.specs.declared.step.Step.{Step}
pub use Rattle.dump_client.specs.declared.step.Step.TheVariants.{Open, Close, Operation, Look, Label, Block}
pub use Rattle.dump_client.specs.declared.step.TapeOp.{TapeOp}
pub use Rattle.dump_client.specs.declared.step.TapeOp.TheVariants.{Mark, Unload, Rewind, RewindAgain, Mark as MarkTape}
pub use Rattle.dump_run.proofs.Cut.{length_cut, size_cut}
pub use Rattle.dump_run.specs.Blocks.{cut_blocks}
pub use Rattle.dump_run.specs.Counts.{AreVolumes, checkpoint_after}
pub use Rattle.dump_run.specs.Label.{label, label_bytes, label_lines}
pub use Rattle.dump_run.specs.Run.{PlainRun, IsRun}
pub use Rattle.dump_run.specs.declared.count.VolumeCount.{VolumeCount}
pub use Rattle.dumpdates.specs.Dates.{entered}
pub use Rattle.dumpdates.specs.Entry.{DatesEntry}
pub use Rattle.rmt_server.specs.Access.{access_of, writes}
pub use Rattle.rmt_server.specs.Refusals.{refused, tape_refusal, number_of, text_of}
pub use Rattle.rmt_server.specs.ServerState.{ServerConnection, side, ServerState, server}
pub use Rattle.rmt_server.specs.Session.{PlainReel, plain_reel, SessionView, tape_request, reel_reply, PlainSession, status_of, refusal, closed, closed_library, is_offline, session_view, write_refusal, refusal as check, open_reply, move_reply}
pub use Rattle.rmt_server.specs.Session.PlainSession.{Online, Idle, Offline}
pub use Rattle.rmt_server.specs.TroubledServe.{TroubledReelStep, drive_in, with_holder, TroubledServeStep, TroubledOpenStep, TroubledMoveStep, TroubledOpStep, TroubledServe, TroubledDoneStep, holder_of}
pub use Rattle.rmt_server.specs.declared.access.Access.{Access}
pub use Rattle.rmt_server.specs.declared.access.Access.TheVariants.{Both}
pub use Rattle.rmt_wire.specs.Counted.{raised}
pub use Rattle.rmt_wire.specs.Number.{HasNoLineFeed, line_feed, SpellsNumber, IsLine}
pub use Rattle.rmt_wire.specs.Parsed.{Parsed, number_front}
pub use Rattle.rmt_wire.specs.Reply.{PlainReply, reply_text, SpellsReply, Wanted, AnswersTo, ReplyHasSpelling}
pub use Rattle.rmt_wire.specs.Reply.PlainReply.{Done, Data, Error}
pub use Rattle.rmt_wire.specs.Reply.Wanted.{DataUpTo, Number}
pub use Rattle.rmt_wire.specs.ReplyFront.{text_len, kept_text, kept_behind}
pub use Rattle.rmt_wire.specs.ReplyParts.{ReplyParsesAs}
pub use Rattle.rmt_wire.specs.ReplyReader.{ReplyHeld, reply_held, ReplyUnread}
pub use Rattle.rmt_wire.specs.Request.{PlainRequest, SpellsRequest, request_text, HasSpelling, IsTextOf, unsent}
pub use Rattle.rmt_wire.specs.Request.PlainRequest.{Write, WriteDropped, Read, Op, Open as OpenDevice, Close as CloseDevice}
pub use Rattle.rmt_wire.specs.RequestParts.{ParsesAs, IsDroppedLine}
pub use Rattle.rmt_wire.specs.RequestReader.{RequestHeld, Unread, held, UnreadAt}
pub use Rattle.rmt_wire.specs.declared.errno.TheConstants.{ENOENT, ENOMEM, ENXIO, EIO, ENOSPC}
pub use Rattle.rmt_wire.specs.declared.fault.WireFault.{WireFault}
pub use Rattle.rmt_wire.specs.declared.fcntl.TheConstants.{O_RDWR}
pub use Rattle.rmt_wire.specs.declared.limits.TheConstants.{RECORD_LIMIT, READER_LIMIT}
pub use Rattle.rmt_wire.specs.declared.mtio.TheConstants.{MTOFFL, MTWEOF, MTREW}
pub use Rattle.tape.specs.Tape.{Tape, TapeAnswer, PlainEntry, tape, offset_of, size_of, entries_of, TapeRequest, TapeStep, SpaceStep, Passes, stands_at}
pub use Rattle.tape.specs.Tape.PlainEntry.{Record, Mark as TapeMark}
pub use Rattle.tape.specs.Tape.TapeAnswer.{Done as Did, Fault, Gave}
pub use Rattle.tape.specs.Tape.TapeRequest.{Write as WriteRecord, WriteMarks, Write as TapeWrite, Read as TapeRead, ForwardFiles, BackFiles, ForwardRecords, BackRecords, Nothing, Unknown}
pub use Rattle.tape.specs.Trouble.{DeviceStep, ComesToDevice, IsUntroubled, left_after}
pub use Rattle.tape.specs.declared.fault.TapeFault.{TapeFault}
pub use Rattle.tape.specs.declared.trouble.Trouble.{Trouble}
pub use Rattle.tape.specs.declared.trouble.Trouble.TheVariants.{None as NoTrouble}
pub use Rattle.volume_check.specs.Volume.{file_sum}
pub use Rattle.world_model.specs.Attempts.{AreLabelled, EachCountHasAttempt, IsEarnedBy, IsSingle, AreSingle, IsReelWritten, IsLabelled}
pub use Rattle.world_model.specs.Changes.{with_no_failure, counts_of, opening, side_of, connection_of, reel_opened_by, changed, changed_from, sent_on, answered, noted, new_connection, noted_sent, without_peer, opened_reel, written_reel, first_name, with_side, ended_from, ended, all_ended, without_server, writing, noted_by, given_up, joined, restarted, ended_at, after_client_call, HasDump, list_in, reel_written, noted_error, accepted}
pub use Rattle.world_model.specs.Events.{PlainEvent}
pub use Rattle.world_model.specs.Events.PlainEvent.{StartRun, Connect, Send, ToServer, Serve, ToClient, Cut, EndAtServer, EndAtClient, ServerRestart, ClientRestart, Respond, Arrange, Stranger, Says, Enter, Save}
pub use Rattle.world_model.specs.Faultless.{IsFaultlessWorld, IsOwnConnection, IsStepUnanswered, ReelsStandAt, StandsWith, StandsBefore, Leads, Stock, stock_of, volume_slots, attempt_on, volume_slot, IsFree, volume_by, IsMoved, IsOffline, IsStepAnswered, StandsThen, CountsThen, FailsFaultless, IsFaultlessFailure, blanks, one_drive, names_left, IsLatched, IsFaultless, AreFaultless, is_between, VolumesInOrder}
pub use Rattle.world_model.specs.First.{PlainDriveSpec, AreGoodDrives, first_world, blank_drive, IsReadable}
pub use Rattle.world_model.specs.Further.{ReelsNotReopened, LabelledReels, CountsGrow, OwnOpens, SentRequests, LatchedReels, ClientsCounts}
pub use Rattle.world_model.specs.Headline.{IsEarned, AreOnce, IsNotReopened, CountedReels, NoTwoHolders, DumpdatesGained, Headline}
pub use Rattle.world_model.specs.History.{volume_of, counted_if, counts_in, dates_with, dates_after, AreCountedIn, HasCountOf}
pub use Rattle.world_model.specs.Kept.{IsKeptRun, AreBooked, IsClientLawful, AreLaid, IsWorldKept, AreTidy, IsTidy}
pub use Rattle.world_model.specs.Naming.{AreNamed, AreWritersLast, AreOpened, SameNames, IsUnopenedSince}
pub use Rattle.world_model.specs.Owning.{IsOwned, is_in_attempt, IsClients}
pub use Rattle.world_model.specs.Rows.{IsRunEntered, MayBeKept, NoRun, Possible}
pub use Rattle.world_model.specs.Sending.{AreTold, GoesTo, LeadsOn, IsStepReply, IsAttempt, IsStepReplied, IsConnectionToldAt, AreUnserved, request_in, IsPending, IsStepAsked, FitsReplyReader, HasDone, IsGood, IsConnectionSent, IsSessionBefore, IsItsTurn, is_labelled, is_marked, VolumeHasBlocks, AreCounted, IsConnectionSettled, IsConnectionTold}
pub use Rattle.world_model.specs.Serving.{ServerTurn, IsNextSent, is_open, IsRefused, ChangesAt, Meets, own, free, OthersStay, IsWholeInBin, IsMoveDone}
pub use Rattle.world_model.specs.Sparing.{AreNotReopened, AreLateWriters, AreStopped, HasOpenedSince, HasLooked, AreListedNow, looked_requests}
pub use Rattle.world_model.specs.Standing.{AreHeld, ReelHolds, ReelLiesIn, online_drive_in, IsReelOf, ReelLiesOn, HasInDrive, IsFirstAway, IsOnlineWith, AreThere, IsOnlineAt, HasReel, ReelHoldsJust}
pub use Rattle.world_model.specs.Steps.{kept_after, caller, recorded, Happens, Hears, Finds, carried, begun, client_connected, fresh, asked, sent_connection, next_text, reached_by, heard, Runs, none, one_more, is_failing, Sends, SeesEnd, IsPushed, failed_read, forgotten_from, ResumesRun}
pub use Rattle.world_model.specs.Sums.{CountedSums}
pub use Rattle.world_model.specs.Talk.{Talks, IsBeginning, Sent, CarriedOut, one_if_here, sent_here, carried_here}
pub use Rattle.world_model.specs.World.{World, Begun, WorldClient, Count, Entered, Kept, numbered, Connection, AttemptState, Opening, with_numbered, Writing}
pub use Rattle.world_model.specs.Written.{whole_volume, attempt_written, block_records, IsAlone, IsQuiet}
