-- The names that these proofs use, from one place: lists and equations, the wire, runs and counts, replies, steps, outcomes and stages.
pub use Rattle.std.proofs.Common.{◌≡◌, ℕ, Bool, true, false, List, [], ◌++◌, refl, subst, arith, Some, None, Result, Ok, Err, Option, ◌≢◌, ◌⊎◌, ◌↔◌, ◌+◌, ◌≤◌, if◌then◌else◌, ◌∷◌, Contains, bytes_eq, sym, ap, ◌∙◌, zero, suc, ◌<◌, nat_lt, drop, inl, inr, length, All, rules, ◌-◌, map, take, append_assoc, length-append, not, min, replicate}
pub use Rattle.std.proofs.lemmas.Bool.Decides.{nat_tests}
pub use Rattle.std.proofs.lemmas.Slice.Eq.{bytes_eq-Decides}
pub use Rattle.std.proofs.lemmas.List.{length-take, length-take-le, length-replicate, take-append-le, map-append, append-nil, take_all, take_rest}
pub use Rattle.std.proofs.Math.Seq.{take-add, take-length, take-append_seam}
pub use Rattle.std.proofs.lemmas.List.Elements.{All-from_recursion, All-nil, All-append, All-push, All-map, All-contains, Contains-append_right, Contains-push, Contains-append_cases, Contains-append_left, Contains-push_cases}
pub use Rattle.std.proofs.lemmas.Grind.{common_steps}
pub use Rattle.rmt_wire.specs.Reply.{PlainReply, Wanted, AnswersTo, data_length}
pub use Rattle.rmt_wire.specs.Reply.PlainReply.{Done, Data, Error}
pub use Rattle.rmt_wire.specs.declared.fault.WireFault.{WireFault}
pub use Rattle.rmt_wire.specs.ReplyReader.{ReplyHeld, ReplyUnread, reply_taken_of, plain_reply_result, ReplyIsNext, ReplyStaysFaulty, reply_held}
pub use Rattle.rmt_wire.specs.ReplyParts.{ReplyParsesAs, ReplyHasNoSpelling, ReplyHasFault}
pub use Rattle.rmt_wire.specs.declared.limits.TheConstants.{READER_LIMIT}
pub use Rattle.rmt_wire.specs.Request.{PlainRequest, IsTextOf, SpellsRequest, request_text, unsent}
pub use Rattle.rmt_wire.specs.Request.PlainRequest.{Write, Op}
pub use Rattle.dump_run.specs.Run.{PlainRun, IsRun}
pub use Rattle.dump_run.specs.declared.count.VolumeCount.{VolumeCount}
pub use Rattle.dump_run.specs.Label.{label_bytes, PlainLabel, label, IsLabel, label_of}
pub use Rattle.dump_run.specs.Checkpoint.{SpellsCheckpoint, checkpoint_text, AreNumbers}
pub use Rattle.dump_client.specs.Position.{Received, outcome, after_step, after_reply, after_noise, after_end, after_label, CoversFrom, Position, Covers, IsFailure, ShowsCounted, block_or_mark, RepliesFollow, IsWantedAt, CanBeHeard}
pub use Rattle.dump_client.specs.Position.Received.{Reply, Noise, End}
pub use Rattle.dump_client.specs.Script.{Wish, Grants, number_of, request_of, wanted_of, counted_label, IsCount, block_steps, refused_step, last_steps, first_steps, steps_of}
pub use Rattle.dump_client.specs.Script.Wish.{AnyNumber, Number, NoRoom, OtherLabel, Anything}
pub use Rattle.dump_client.specs.Standing.{Standing, standing, checkpoint_of, ReceivesAt, FedAt, Makes, Becomes, IsOver, counted_to, count_to, checkpoint_after, IsAtStep, CutAt}
pub use Rattle.dump_client.specs.declared.step.Step.{Step}
pub use Rattle.dump_client.specs.declared.step.Step.TheVariants.{Open, Operation, Look, Label, Block, Close}
pub use Rattle.dump_client.specs.declared.step.TapeOp.TheVariants.{Rewind, RewindAgain, Mark, Unload}
pub use Rattle.dump_client.specs.declared.outcome.Outcome.{Outcome}
pub use Rattle.dump_client.specs.declared.outcome.Outcome.TheVariants.{GoesOn, Fails, Counted, Ended}
pub use Rattle.dump_client.specs.declared.stage.Stage.{Stage}
pub use Rattle.dump_client.specs.declared.stage.Stage.TheVariants.{Ready, ToSend, Waiting, Asking, Finished}
pub use Rattle.dump_client.specs.declared.stage.Progress.{Progress}
pub use Rattle.dump_client.specs.declared.fault.AttemptFault.{AttemptFault}
pub use Rattle.dump_client.specs.declared.fault.AttemptFault.TheVariants.{Refused, Botched, ConnectionEnded, ShortWrite, ReelTooSmall, CountedReel, SourceFault, OutOfMemory}
pub use Rattle.dump_client.specs.Lawful.{attempt_request, IsUnfinishedRun, StepFits, steps_before, counts_before, sent_before, sent_with, blocks_from, steps_to, OutcomeFits, AreVolumes, steps_to_block, StageFits, IsLawful, attempt_at, StandsAtStep, StandsAt, RoomFits}
pub use Rattle.dump_client.specs.Listening.{IsReaderWaiting, HasLabel, is_more, IsFeedResult, IsSummary, IsReplyHeard}
pub use Rattle.dump_client.specs.Client.{IsShapedAs, IsRequestOf, IsRequestPushed, AppendedBy, HasFedAt, IsIdle, ReadBy, unanswered}
pub use Rattle.dump_client.specs.Replies.{EndsAt, led_on, led_by, AreGranted, Granted}
