-- The words of std and of the specs that proofs use.
pub use Rattle.std.proofs.Common.{zero-add, Bool, Err, List, None, Ok, OnErr, OnOk, Option, Result, Some, [], add-zero, ap, append-nil, append_assoc, arith, cond, decimal, drop, eqb, false, get_or, if◌then◌else◌, inl, inr, is_some, length, length-append, length-drop, ltb, min, not, refl, replicate, rules, subst, suc, sym, take, take-append-drop, true, zero, ℕ, ⊎_elim, ◌*◌, ◌++◌, ◌+◌, ◌-◌, ◌<◌, ◌==◌, ◌↔◌, ◌∙◌, ◌∷◌, ◌≡◌, ◌≢◌, ◌≤◌, ◌⊎◌}
pub use Rattle.std.proofs.KnownBytes.{Appends-trans, Consumes-kept, Consumes-trans}
pub use Rattle.std.proofs.Math.Seq.{take-add, take-append-add}
pub use Rattle.std.proofs.lemmas.Bool.{cases_lt}
pub use Rattle.std.proofs.lemmas.Bool.Decides.{nat_tests}
pub use Rattle.std.proofs.lemmas.Grind.{common_steps, flat_map-append}
pub use Rattle.std.proofs.lemmas.List.{drop-append-le, drop-drop, drop-take, drop_all, drop_at, length-replicate, length-take, length-take-le, nil_from_length, take-append-le, take-take, take_all, take_at, take_min, take_rest}
pub use Rattle.std.proofs.lemmas.Result.{err_from_is_err_and, on_err_weaker}
pub use Rattle.std.specs.Char.{digit_value}
pub use Rattle.std.specs.Io.KnownBytes.{Appends, Consumes, Keeps}
pub use Rattle.std.specs.List.{flat_map, position}
pub use Rattle.std.specs.Option.{unwrap_or}
pub use Rattle.std.specs.Prelude.{IfSome, nat_lt, ◌&&◌, ◌||◌}
pub use Rattle.std.specs.Str.Parse.{AllDigits, digits_value, digits_value_after}
pub use Rattle.rmt_wire.specs.Number.{SpellsNumber, line_feed, HasNoLineFeed, IsLine, space}
pub use Rattle.rmt_wire.specs.Parsed.{Parsed, number_front, after, is_digit, ends_number, is_too_much, number_from}
pub use Rattle.rmt_wire.specs.Request.{PlainRequest, SpellsRequest, SpellsMode, HasSpelling, request_text, unsent, IsTextOf}
pub use Rattle.rmt_wire.specs.Request.PlainRequest.{WriteDropped, Open, Close, Write, Read, Op}
pub use Rattle.rmt_wire.specs.RequestParts.{IsDroppedLine, HasFault, ParsesAs, Spelled, Parts, EndsInNumber, EndsInFullLine, IsCause, IsRequestPrefix, HasNoSpelling}
pub use Rattle.rmt_wire.specs.RequestFront.{written_at, line_from, line_front}
unfoldable pub use Rattle.rmt_wire.specs.RequestFront.{front_of, close_head, count_head, head_of, letter_head, mode_head, op_head, open_head, read_head, write_head}
pub use Rattle.rmt_wire.specs.RequestReader.{dropped_if_long, taken_of, RequestHeld, held, IsDropped, UnreadAt, Unread, discardable_at, taken_at, IsNext, StaysFaulty, plain_front_result, held_after, IsGiven, plain_next_result, Continues, LeavesRoom, Shrinks, StaysUnlessGiven, KeepsGiving}
unfoldable pub use Rattle.rmt_wire.specs.RequestReader.{dropped_line}
pub use Rattle.rmt_wire.specs.RequestKept.{line_if_seen, if_dropped, IsKnown, HasDiscarded, idle, HasRoom}
unfoldable pub use Rattle.rmt_wire.specs.RequestKept.{write_line}
pub use Rattle.rmt_wire.specs.RequestFill.{IsFilled, IsNotFilled}
pub use Rattle.rmt_wire.specs.RequestStream.{Answers, IsReadNext, CountsNext, EndsAs, IsGivenWhole, GivesNext, IsSpelledIfSome, FallsIfSome, HasAnswered, GoesOn, most_left, plain_read_next_result}
pub use Rattle.rmt_wire.specs.Reply.{PlainReply, Wanted, SpellsReply, ReplyHasSpelling, AnswersTo, data_length, reply_text}
pub use Rattle.rmt_wire.specs.Reply.PlainReply.{Error, Done, Data}
pub use Rattle.rmt_wire.specs.Reply.Wanted.{Number, DataUpTo}
pub use Rattle.rmt_wire.specs.ReplyParts.{ReplyParsesAs, wanted_after, IsTooMuch, ReplyIsCause}
pub use Rattle.rmt_wire.specs.ReplyFront.{text_len, kept_text, kept_behind, error_at, data_at}
unfoldable pub use Rattle.rmt_wire.specs.ReplyFront.{reply_front, done_front, error_front, kept_of}
pub use Rattle.rmt_wire.specs.ReplyReader.{reply_held, IsWithin, kept_while, ReplyUnread, reply_taken_of, ReplyIsNext, ReplyStaysFaulty, plain_reply_front_result, reply_held_after, IsErrorText, error_bytes, IsWithinIfSome, ReplyContinues, ReplyLeavesRoom}
pub use Rattle.rmt_wire.specs.ReplyWriter.{AppendsBeginning}
pub use Rattle.rmt_wire.specs.Lent.{plain_reply, lent_reply, plain_wanted, plain_wanted_if_some, plain_request, lent_front}
pub use Rattle.rmt_wire.specs.Counted.{raised}
pub use Rattle.rmt_wire.specs.declared.fault.WireFault.{WireFault}
pub use Rattle.rmt_wire.specs.declared.fault.WireFault.TheVariants.{UnknownCommand, BadNumber, LineTooLong, NotAReply, TooMuchData}
pub use Rattle.rmt_wire.specs.declared.limits.TheConstants.{RECORD_LIMIT, READER_LIMIT}
pub use Rattle.rmt_wire.specs.declared.number.Place.{Place}
pub use Rattle.rmt_wire.specs.declared.reply.Reply.{Reply}
pub use Rattle.rmt_wire.specs.declared.request.Request.{Request}
pub use Rattle.rmt_wire.specs.declared.request.reader.stream.StreamFault.{StreamFault}
pub use Rattle.rmt_wire.specs.declared.request.reader.stream.StreamFault.TheVariants.{Broken, Truncated, Input}
