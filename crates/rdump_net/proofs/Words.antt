-- The names that these proofs use, from one place.
pub use Rattle.std.proofs.Common.{zero, suc, Bool, Err, Global, List, None, Ok, Option, Result, Some, Vec, [], ap, append-nil, append_assoc, arith, codes, decimal, drop, false, if◌then◌else◌, inl, inr, length, length-append, length-take, map, min, nat_eq, refl, rules, subst, sym, take, true, ℕ, ◌&&◌, ◌++◌, ◌+◌, ◌-◌, ◌<◌, ◌^◌, ◌∙◌, ◌∷◌, ◌≡◌, ◌≢◌, ◌≤◌, ◌⊎◌}
pub use Rattle.std.proofs.Math.Seq.{drop-append_seam, take-add, take-append-add}
pub use Rattle.std.proofs.lemmas.List.{take_rest, drop_all, length-drop, map-append, take-append-drop, take-append-le, take_all, take_min, take_more}
pub use Rattle.std.specs.Vec.{vec_capacity, vec_len}
pub use Rattle.dump_client.specs.Client.{ClientHeld, HasFed, NextRequestAt, unanswered}
pub use Rattle.dump_client.specs.Standing.{AnsweredAt, CutAt, Standing, StartedAt, VolumeCount, checkpoint_of}
pub use Rattle.dump_client.specs.declared.fault.AttemptFault.{AttemptFault}
pub use Rattle.dump_client.specs.declared.fault.StartFault.{StartFault}
pub use Rattle.dump_client.specs.declared.stage.Answer.{Answer}
pub use Rattle.dump_client.specs.declared.stage.Progress.{Progress}
pub use Rattle.dump_client.specs.declared.stage.Stage.{Stage}
pub use Rattle.console.specs.declared.status.ExitStatus.{ExitStatus}
pub use Rattle.remote_tape.proofs.Basics.{alone, both, is_fault}
pub use Rattle.rdump_net.specs.Observing.{AreTold, DumpEvent, HasTold, LogsOn, Observes, counts_of, entered_of, kept_of, told_of}
pub use Rattle.rdump_net.specs.Observing.DumpEvent.{Completed, Counted, Entered, Forgotten, Kept}
pub use Rattle.refusals.specs.declared.request.TapeRequest.{TapeRequest}
pub use Rattle.remote_tape.specs.Call.{IsCalled, IsPeerCall, plain_number, plain_result, wanted_by}
pub use Rattle.remote_tape.specs.Calls.{CallsFollow, Extends, Finishes, Stops, is_done}
pub use Rattle.remote_tape.specs.Calls.CallsFollow.{begins}
pub use Rattle.remote_tape.specs.Search.{GoesOnBy, HasNoReply, HasReply, HasSought, IsBeginningOf, IsMarkFound, IsRefusedLast, next_back, next_close, records_of}
pub use Rattle.remote_tape.specs.Tape.{HasCause, HasFailed, IsAsked, IsNamed, IsRecordRead}
pub use Rattle.remote_tape.specs.declared.fault.TapeCause.{TapeCause}
pub use Rattle.remote_tape.specs.declared.fault.TapeCause.TheVariants.{NoReply, Refused}
pub use Rattle.remote_tape.specs.declared.fault.TapeFault.{TapeFault}
pub use Rattle.remote_tape.specs.declared.mark_search.MarkSearch.{MarkSearch}
pub use Rattle.rdump_net.specs.Ends.{SinkEnds, SinkKind, copy_ends, copy_kind, sink_ends, sink_kind, stream_ends, stream_kind}
pub use Rattle.rdump_net.specs.Keeping.{HasKept, HasKeptTo, IsDumpKept, IsKept, IsKeptConclusion, IsKeptUp, IsUnkept, KeptDump, KeptEnds, KeptKind, kept_ends, kept_kind, plain_checkpoint, unkept_line}
pub use Rattle.rdump_net.specs.Lines.{DumpLines, IsConcluded, IsConclusion, IsDumped, IsBetween, IsFinish, IsPrefixOf, IsReplied, IsRound, conclusion_status, count_line, count_lines, failure_lines, question_line}
pub use Rattle.rdump_net.specs.Lines.DumpLines.{asked, counted, failed, none}
pub use Rattle.rdump_net.specs.Look.{Fails, Finding, Goes, IsFailedPart, IsLook, IsLookPart, IsRecordKept, LookFails, LookStage, after_read, plain_front, request_at, stage_from, stage_then}
pub use Rattle.rdump_net.specs.Look.Finding.{Front, Refusal}
pub use Rattle.rdump_net.specs.Look.LookStage.{Closed, Closing, Opening, Reading, Rewinding, RewindingAgain, Spacing}
pub use Rattle.rdump_net.specs.Look.PlainFront.{Empty, Record}
pub use Rattle.rdump_net.specs.Operation.{IsOperated, IsOperationReply, IsReplyPrinted, mode_for}
pub use Rattle.remote_tape.specs.Peer.{AreBytesSent, Logs, given}
pub use Rattle.rdump_net.specs.Reading.{AreRecords, AreRecordsGiven, Breaks, CallSteps, Concludes, EndsAtRefusal, HasConcluded, HasReadVolume, IsAtLabel, IsBegun, IsDone, IsDoneNext, IsEndKnown, IsEnding, IsGiven, IsRead, IsTakenAway, IsTakenAwayOnlyIfKept, IsUnmarked, IsVolumeCopied, IsVolumeReading, OnlyTheLastIsEmpty, ReadEnds, ReadFails, Reads, ReadsVolume, TapeFails, after_for_count, after_for_records, file_bytes, is_taken, is_whole, label_text, next_end, next_mark, next_of, next_read}
pub use Rattle.rdump_net.specs.Reading.IsEnding.{refused, unasked}
pub use Rattle.rdump_net.specs.Sink.{SinkCall, Takes, blocks_from, calls_of}
pub use Rattle.rdump_net.specs.Sink.SinkCall.{Block, Complete, Label, Mark}
pub use Rattle.rdump_net.specs.Sink.Takes.{accepted, nothing, stopped}
pub use Rattle.rdump_net.specs.Talk.{FromAny, FromNone, FromThis, GoesOn, TalkStep, Talks, TalksAlone, TalksOver}
pub use Rattle.rdump_net.specs.Talk.TalkStep.{answers, asks, ends, has_none, hears, starts, stays}
pub use Rattle.rdump_net.specs.Talk.Talks.{one_more}
pub use Rattle.rdump_net.specs.declared.conclusion.Conclusion.{Conclusion}
pub use Rattle.remote_tape.specs.declared.fault.CallFault.{CallFault}
pub use Rattle.remote_tape.specs.declared.fault.CallFault.TheVariants.{Botched, ConnectionEnded, OutOfMemory}
pub use Rattle.rdump_net.specs.declared.fault.ReadFault.{ReadFault}
pub use Rattle.rdump_net.specs.declared.fault.ReadFault.TheVariants.{NoMark, Stopped, Tape, Undetermined}
pub use Rattle.remote_tape.specs.declared.peer.Passed.{Passed}
pub use Rattle.remote_tape.specs.declared.peer.Passed.TheVariants.{Connected, Ended, Given, Sent}
pub use Rattle.rdump_net.specs.declared.volume.AfterVolume.{AfterVolume}
pub use Rattle.rdump_net.specs.declared.volume.AfterVolume.TheVariants.{Check, Offline, Stay}
pub use Rattle.rmt_wire.specs.Counted.{Counting, HasRisen}
pub use Rattle.rmt_wire.specs.Print.{IsPrinted}
pub use Rattle.rmt_wire.specs.Reply.{PlainReply}
pub use Rattle.rmt_wire.specs.Reply.PlainReply.{Data, Done, Error}
pub use Rattle.rmt_wire.specs.Request.{PlainRequest}
pub use Rattle.rmt_wire.specs.Request.PlainRequest.{Close, Op, Open, Read}
pub use Rattle.rmt_wire.specs.declared.errno.TheConstants.{EIO}
pub use Rattle.rmt_wire.specs.declared.limits.TheConstants.{RECORD_LIMIT}
pub use Rattle.rmt_wire.specs.declared.mtio.TheConstants.{MTFSF, MTOFFL}
pub use Rattle.rmt_wire.specs.declared.fcntl.TheConstants.{O_RDONLY}
