-- The names that these proofs use, from one place.
pub use Rattle.std.proofs.Common.{zero, suc, Err, List, None, Ok, Option, Result, Some, [], ap, append-nil, append_assoc, arith, false, if◌then◌else◌, inl, inr, length, length-append, length-take, map, nat_eq, refl, rules, subst, sym, take, true, ℕ, ◌++◌, ◌<◌, ◌∙◌, ◌∷◌, ◌≡◌, ◌≢◌, ◌≤◌}
pub use Rattle.std.proofs.lemmas.List.{map-append}
pub use Rattle.remote_tape.proofs.Basics.{alone, both}
pub use Rattle.remote_tape.specs.Call.{Answers, Brings, IsCalled, IsEnough, IsPeerCall, IsReceivedFrom, IsReplyAwaited, IsReplyHeard, plain_number, wanted_by}
pub use Rattle.remote_tape.specs.Calls.{CallsFollow, Extends, Finishes, Stops}
pub use Rattle.remote_tape.specs.Calls.CallsFollow.{begins}
pub use Rattle.remote_tape.specs.Peer.{Logs, given}
pub use Rattle.remote_tape.specs.Search.{GoesOnBy, HasNoReply, HasSought, IsBeginningOf, StopsTheSearch, given_up_for, next_again, next_back, next_close, next_forward, next_over, records_of}
pub use Rattle.remote_tape.specs.Tape.{HasCause, IsAsked, IsNamed, IsSpace}
pub use Rattle.remote_tape.specs.declared.fault.CallFault.{CallFault}
pub use Rattle.remote_tape.specs.declared.fault.CallFault.TheVariants.{Botched, OutOfMemory}
pub use Rattle.remote_tape.specs.declared.fault.TapeCause.{TapeCause}
pub use Rattle.remote_tape.specs.declared.fault.TapeFault.{TapeFault}
pub use Rattle.remote_tape.specs.declared.peer.Passed.{Passed}
pub use Rattle.remote_tape.specs.declared.peer.Passed.TheVariants.{Connected, Ended, Given, Sent}
pub use Rattle.remote_tape.specs.declared.reply.TapeReply.{TapeReply}
pub use Rattle.remote_tape.specs.declared.mark_search.MarkSearch.{MarkSearch}
pub use Rattle.refusals.specs.declared.request.TapeRequest.{TapeRequest}
pub use Rattle.rmt_wire.specs.Lent.{plain_reply, plain_request, plain_wanted}
pub use Rattle.rmt_wire.specs.Reply.{PlainReply, SpellsReply, Wanted}
pub use Rattle.rmt_wire.specs.Reply.PlainReply.{Data, Done, Error}
pub use Rattle.rmt_wire.specs.Reply.Wanted.{DataUpTo, Number}
pub use Rattle.rmt_wire.specs.ReplyReader.{IsPeeked, ReplyHeld, ReplyUnread}
pub use Rattle.rmt_wire.specs.Request.{PlainRequest}
pub use Rattle.rmt_wire.specs.Request.PlainRequest.{Op}
pub use Rattle.rmt_wire.specs.declared.errno.TheConstants.{EIO}
pub use Rattle.rmt_wire.specs.declared.limits.TheConstants.{NUMBER_LIMIT}
pub use Rattle.rmt_wire.specs.declared.reply.Reply.{Reply}
pub use Rattle.rmt_wire.specs.declared.fault.WireFault.{WireFault}
pub use Rattle.rmt_wire.specs.declared.mtio.TheConstants.{MTBSR, MTFSF, MTFSR, MTREW}
