-- The names that most proofs of this crate cite, passed on from one place. Declares nothing.
pub use Rattle.drives.specs.Calls.{StacksCall, StacksKind}
pub use Rattle.drives.specs.Calls.StacksCall.{LayBack, Latch, Move}
pub use Rattle.drives.specs.Holding.{has, HoldsJust, given, holder_after_give}
pub use Rattle.drives.specs.ListLibrary.{MovesTroubles, HasReelAt, ListLibrary, troubled_in, is_set, IsListStacksCall, rest_drive}
pub use Rattle.drives.specs.Local.{Holders, IsSeatOf, IsHeldBy}
pub use Rattle.drives.specs.Opening.{Kinds, OpenStep, SeatStep, LatchesFor, drive_asked, found_in_open, kinds, holder_after_open}
pub use Rattle.drives.specs.Stacking.{HasLatched, ReelCanFail}
pub use Rattle.drives.specs.TapeLibrary.{TapeLibrary}
pub use Rattle.drives.specs.contracts.list.ListStacksStacks.TheImpl.{ghosts as of_stacks}
pub use Rattle.drives.specs.declared.fault.DriveFault.{DriveFault}
pub use Rattle.drives.specs.declared.fault.DriveFault.TheVariants.{Device}
pub use Rattle.drives.specs.declared.view.View.{View}
pub use Rattle.rmt_server.specs.Access.{access_of}
pub use Rattle.rmt_server.specs.Carrying.{IsCarriedOut, MayFail, MayShare, TakesFor, Operates, CarriesOut, HasTrouble, is_of_stacks, IsServed}
pub use Rattle.rmt_server.specs.Carrying.{SeatSteps, IsAlone}
pub use Rattle.rmt_server.specs.Memory.{MemoryState, in_memory}
pub use Rattle.rmt_server.specs.Moving.{IsTakenOff, MovesIn, MovesReel, MovesOff}
pub use Rattle.rmt_server.specs.Opening.{IsClosed, LaysBack, view_after_close, opened_by, Closes, OpensFor, holder_after_close}
pub use Rattle.rmt_server.specs.Refusals.{refused, text_of, number_of}
pub use Rattle.rmt_server.specs.Replies.{IsSayable, outcome_reply, IsOutcomeSayable}
pub use Rattle.rmt_server.specs.Serving.{CallsReelOf, CallsOpenReel, ReelServes, Serves}
pub use Rattle.rmt_server.specs.Session.{SessionView, ServeRun, none as no_steps, one_more as one_step, PlainSession, closed_library, refusal}
pub use Rattle.rmt_server.specs.Session.{move_reply, PlainReel, plain_reel, IsOpenExcused, open_reply, session_after, tape_request, reel_reply}
pub use Rattle.rmt_server.specs.Session.{status_of, session_view, is_offline, closed, IsExcused, ReelStep, ServeStep, OpensAs, DoneStep}
pub use Rattle.rmt_server.specs.Session.PlainSession.{Offline, Online}
pub use Rattle.rmt_server.specs.State.{State, HasView, drive_of, online_drive, reel_of, IsAt, IsSeenWith, IsViewedAs, IsReelCall, status_at}
pub use Rattle.rmt_server.specs.State.{SessionCanFail, state, KeepsDrives}
pub use Rattle.rmt_server.specs.Stream.{Exchange, requests_of, replies_text, IsAnswered, IsCutOff, Advances, AnswersAs, CarryRun, IsSettled, none}
pub use Rattle.rmt_server.specs.Stream.{one_more}
pub use Rattle.rmt_server.specs.TroubledServe.{with_holder, holder_of, IsOpenCause, IsTroubled, IsSetFor, IsSpent, IsNextSpent, IsServedUnder}
pub use Rattle.rmt_server.specs.TroubledServe.{drive_in, TroubledReelStep, TroubledServeStep, TroubledOpenStep, TroubledDoneStep}
pub use Rattle.rmt_server.specs.declared.access.Access.{Access}
pub use Rattle.rmt_server.specs.declared.refusal.Refusal.{Refusal}
pub use Rattle.rmt_server.specs.declared.refusal.Refusal.TheVariants.{NoSuchFile, NoMemory}
pub use Rattle.rmt_server.specs.declared.session.dispatch.Given.TheVariants.{Number, Bytes}
pub use Rattle.rmt_server.specs.declared.session.session_state.Opened.{Opened}
pub use Rattle.rmt_wire.specs.Lent.{plain_request}
pub use Rattle.rmt_wire.specs.Reply.{PlainReply, reply_text, ReplyHasSpelling}
pub use Rattle.rmt_wire.specs.Reply.PlainReply.{Done}
pub use Rattle.rmt_wire.specs.Request.{PlainRequest, SpellsRequest}
pub use Rattle.rmt_wire.specs.Request.PlainRequest.{Open, Close, Op}
pub use Rattle.rmt_wire.specs.RequestReader.{RequestHeld, Unread, IsNext, plain_next_result}
pub use Rattle.rmt_wire.specs.declared.limits.TheConstants.{RECORD_LIMIT, READER_LIMIT}
pub use Rattle.tape.specs.Tape.{Tape, tape, TapeAnswer, TapeRequest, TapeStep}
pub use Rattle.tape.specs.Tape.TapeAnswer.{Fault}
pub use Rattle.tape.specs.Trouble.{TroubledTape, DeviceStep}
pub use Rattle.tape.specs.contracts.troubled.TroubledReelReel.TheImpl.{ghosts as of_reel}
pub use Rattle.tape.specs.declared.reel.Reel.{Ghosts as ReelPromise}
pub use Rattle.tape.specs.declared.trouble.Trouble.{Trouble}
pub use Rattle.tape.specs.declared.trouble.Trouble.TheVariants.{None as NoTrouble}
