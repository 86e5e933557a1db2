-- The names that most proofs of this crate cite, passed on from one place. Declares nothing.
pub use Rattle.drives.specs.Arranging.{arranged, left, picked, pile_of, slot_named, without}
pub use Rattle.drives.specs.Holding.{HoldsJust, newcomer}
pub use Rattle.drives.specs.ListLibrary.{IsLibrary, ListLibrary, StacksCanFail, library_of, troubled_in}
pub use Rattle.drives.specs.Local.{IsHeldBy, IsSeatOf, holders}
pub use Rattle.drives.specs.Opening.{OpenStep}
pub use Rattle.drives.specs.Stacking.{HasLatched}
pub use Rattle.drives.specs.TapeLibrary.{Drive, LibraryOf, ReelSlot, TapeLibrary, at_first, drive_at, drive_with, kept_reel, latched_at, latched_on}
pub use Rattle.drives.specs.TapeLibrary.{library, to_bin, with_first}
pub use Rattle.drives.specs.declared.fault.DriveFault.{DriveFault}
pub use Rattle.drives.specs.declared.view.View.{View}
pub use Rattle.rmt_server.specs.Access.{access_of}
pub use Rattle.rmt_server.specs.Carrying.{IsCarriedOut}
pub use Rattle.rmt_server.specs.Memory.{MemoryState, in_memory, session_seen, session_view_seen}
pub use Rattle.rmt_server.specs.Opening.{IsClosed, holder_after_close}
pub use Rattle.rmt_server.specs.Refusals.{refused}
pub use Rattle.rmt_server.specs.ServerState.{ServerConnection, side}
pub use Rattle.rmt_server.specs.Session.{PlainReel, PlainSession, SessionView, closed, closed_library, refusal, session_after, status_of}
pub use Rattle.rmt_server.specs.Session.PlainSession.{Idle, Offline, Online}
pub use Rattle.rmt_server.specs.State.{HasView, IsAt, KeepsDrives, SessionCanFail, drive_of, state}
pub use Rattle.rmt_server.specs.TroubledServe.{IsEnded, IsServedUnder, IsSetFor, IsTroubled, TroubledDoneStep, TroubledOpenStep, TroubledServeStep}
pub use Rattle.rmt_server.specs.TroubledServe.{drive_in, set_for, with_holder, with_troubles}
pub use Rattle.rmt_server.specs.Troubling.{with_trouble}
pub use Rattle.rmt_server.specs.declared.access.Access.{Access}
pub use Rattle.rmt_server.specs.declared.session.session_state.Opened.{Opened}
pub use Rattle.rmt_wire.specs.Lent.{plain_reply, plain_request}
pub use Rattle.rmt_wire.specs.Reply.{PlainReply}
pub use Rattle.rmt_wire.specs.Request.{PlainRequest}
pub use Rattle.rmt_wire.specs.Request.PlainRequest.{Open}
pub use Rattle.rmt_wire.specs.RequestParts.{HasFault, HasNoSpelling, IsRequestPrefix, ParsesAs}
pub use Rattle.rmt_wire.specs.RequestReader.{IsNext, RequestHeld, Unread, UnreadAt, held, plain_next_result}
pub use Rattle.rmt_wire.specs.declared.fault.WireFault.{WireFault}
pub use Rattle.rmt_wire.specs.declared.request.Request.{Request}
pub use Rattle.std.proofs.lemmas.Grind.{common_steps}
pub use Rattle.std.proofs.lemmas.List.{get_or-replicate, get_or-set_other, get_or-set_same, get_or_past, length-append, length-replicate, length-set}
pub use Rattle.std.proofs.lemmas.List.{map-append, map-set, nil_from_length, set-get_or, set-set}
pub use Rattle.tape.specs.Tape.{entries_of}
pub use Rattle.tape.specs.Trouble.{TroubledTape}
pub use Rattle.tape.specs.declared.trouble.Trouble.{Trouble}
pub use Rattle.tape.specs.declared.trouble.Trouble.TheVariants.{None as NoTrouble}
pub use Rattle.world_host.specs.Hosting.{IsCarried, IsHosting, IsLive, IsMade, IsNextWaiting, IsUntroubledAt, MemoryDrives, MemorySessionState}
pub use Rattle.world_host.specs.Hosting.{TurnsSession, is_nothing, is_whole_side, seen_side, server_of, session_back}
pub use Rattle.world_host.specs.Lying.{AreAllInSlots, AreInSlots, AreInSlotsExcept, AreStacksInSlots, IsOnlineAt, online_by, online_drive_in}
pub use Rattle.world_host.specs.Servers.{IsHeldOnce, IsPiecePushed, TakesIn, drive_open_by, ended, hosted, joined, restacked, side_at, with_side_at}
pub use Rattle.world_host.specs.Turns.{GivesNothing, TurnsAt, with_back}
pub use Rattle.world_host.specs.declared.side.Next.{Next}
pub use Rattle.world_host.specs.declared.side.Next.TheVariants.{Nothing, Seat, Whole}
pub use Rattle.world_host.specs.declared.side.ServerConnection.{ServerConnection as RealServerConnection}
pub use Rattle.world_host.specs.declared.turn.Turn.{Turn}
