-- The effect of each event. A count is the record of a volume that the client wrote whole to a
-- reel. Here `k` is the number of a connection, `l` a connection, `b` a run that was begun, `s` the
-- server's side of a connection, and `c` the client. Public contracts cite it.
use Rattle.std.specs.Prelude.{◌≡◌, ℕ, ◌+◌, Bool, true, false, List, [], ◌∷◌, ◌++◌, length, take, drop, option_map, option_to_list, Option, Some, None, Result, Ok, Err}
use Rattle.rmt_wire.specs.Request.{PlainRequest, request_text}
use Rattle.rmt_wire.specs.Reply.{PlainReply}
use Rattle.rmt_wire.specs.RequestParts.{ParsesAs}
use Rattle.rmt_wire.specs.RequestReader.{RequestHeld, Unread}
use Rattle.rmt_wire.specs.ReplyReader.{ReplyHeld, reply_held}
use Rattle.rmt_wire.specs.declared.fault.WireFault.{WireFault}
use Rattle.tape.specs.declared.trouble.Trouble.{Trouble}
use Rattle.drives.specs.TapeLibrary.{TapeLibrary, IsDriveNamed}
use Rattle.drives.specs.Arranging.{arranged}
use Rattle.rmt_server.specs.Session.{PlainSession, session_view}
use Rattle.rmt_server.specs.TroubledServe.{TroubledServe}
use Rattle.rmt_server.specs.ServerState.{server, ServerConnection, side}
use Rattle.dumpdates.specs.Entry.{DatesEntry}
use Rattle.dumpdates.specs.Dates.{entered}
use Rattle.dump_run.specs.Run.{PlainRun}
use Rattle.dump_run.specs.Blocks.{cut_blocks}
use Rattle.dump_client.specs.Script.{request_of}
use Rattle.dump_client.specs.Standing.{Standing, standing, checkpoint_of, FedAt, CutAt, IsOver, stage_after}
use Rattle.dump_client.specs.Client.{HasFedAt, unanswered}
use Rattle.dump_client.specs.declared.step.Step.{Step}
use Rattle.dump_client.specs.declared.step.Step.TheVariants.{Open, Block}
use Rattle.dump_client.specs.declared.stage.Answer.{Answer}
use Rattle.dump_client.specs.declared.stage.Answer.TheVariants.{Retry, Abandon}
use Rattle.dump_client.specs.declared.stage.Stage.TheVariants.{Ready, ToSend, Waiting, Asking}
use Rattle.dump_client.specs.declared.stage.Progress.{Progress}
use Rattle.dump_client.specs.declared.fault.AttemptFault.TheVariants.{SourceFault}
use Rattle.world_model.specs.World.{World, Connection, AttemptState, Begun, WorldClient, Kept, numbered, with_numbered}
use Rattle.world_model.specs.Events.{PlainEvent}
use Rattle.world_model.specs.Events.PlainEvent.{StartRun, Connect, Send, ToServer, Serve, ToClient, Cut, EndAtServer, EndAtClient, ServerRestart, ClientRestart, Respond, Arrange, Stranger, Says, Enter, Save}
use Rattle.world_model.specs.Rows.{Possible}
use Rattle.world_model.specs.Changes.{changed, side_of, connection_of, with_no_failure, joined, sent_on, other_left, given_up, ended_at, restarted, opened_reel, opening, list_in, reel_written, writing, answered, noted_sent, counted_from, after_client_call}

-- the client of run `number`, in this state and with this reader
abbrev pub caller : ℕ → Standing → ReplyHeld → WorldClient
caller number at reader = record { number = number; at = at; reader = reader }

-- A run with the next number was begun, and its client is ready. A saved run is dropped.
abbrev pub begun : World → PlainRun → List ℕ → ReplyHeld → World
begun w run payload reader = record w {
  begun = w.begun ++ record { run = run; payload = cut_blocks run.blocks run.block_bytes payload } ∷ [];
  caller = Some (caller (length w.begun + 1) (standing run [] Ready) reader);
  kept = None;
  failure = None;
}

-- the attempt of the client's next volume, which has done nothing
abbrev pub fresh : WorldClient → AttemptState
fresh c = record {
  run = c.number;
  volume = (checkpoint_of c.at.counts).0;
  first = (checkpoint_of c.at.counts).1;
  sent = 0;
  carried = 0;
  label = false;
  blocks = 0;
  mark = false;
  fault = false;
}

-- the world after the client started an attempt, on a new connection of its own
abbrev pub client_connected : World → WorldClient → World
client_connected w c = record (joined w (Some (fresh c))) {
  caller = Some (caller c.number (standing c.at.run c.at.counts (ToSend Open)) (reply_held None []));
  own = Some (length w.connections + 1);
  failure = None;
}

-- whether a read of the payload fails in this request, which only the write of a block can
abbrev pub is_failing : Bool → Step → Bool
is_failing true (Block n) = true
is_failing fails step = false

-- the world after the attempt failed at a read of the payload
abbrev pub failed_read : World → ℕ → WorldClient → ReplyHeld → World
failed_read w k c reader = record (given_up w k) {
  caller = Some (caller c.number (standing c.at.run c.at.counts Asking) reader);
  failure = Some ((checkpoint_of c.at.counts).0, SourceFault);
}

-- the connection after the client sent this text on it
abbrev pub sent_connection : List ℕ → Connection → Connection
sent_connection text l = record l { toward = sent_on l.cut l.toward text; dump = option_map noted_sent l.dump }

-- the text of the client's request at this step
abbrev pub next_text : WorldClient → List (List ℕ) → Step → List ℕ
next_text c payload step =
    request_text (request_of c.at.run payload (checkpoint_of c.at.counts).0 (checkpoint_of c.at.counts).1 step)

-- the world after the client sent its request and waits for the reply
abbrev pub asked : World → ℕ → WorldClient → List (List ℕ) → Step → ReplyHeld → World
asked w k c payload step reader = record w {
  connections = changed (sent_connection (next_text c payload step)) w.connections k;
  caller = Some (caller c.number (standing c.at.run c.at.counts (Waiting step)) reader);
  failure = None;
}

-- The client sends its next request on its own connection `k`. If the flag is set, a read of the
-- payload fails instead.
abbrev pub Sends : Bool → World → ℕ → WorldClient → List (List ℕ) → Step → World → Type 0
Sends true w k c payload step u = (reader : ReplyHeld) × (u ≡ failed_read w k c reader)
Sends false w k c payload step u =
    (reader : ReplyHeld) × HasFedAt (Waiting step) reader [] × (u ≡ asked w k c payload step reader)

-- Some bytes were unread by the reader, perhaps none. Whatever they were, the piece now follows
-- them.
abbrev pub IsPushed : RequestHeld → List ℕ → RequestHeld → Type 0
IsPushed before piece after =
    ((bytes : List ℕ) × Unread before bytes) × ((bytes : List ℕ) → Unread before bytes → Unread after (bytes ++ piece))

-- the world after `n` bytes in transit to the server reached its reader
abbrev pub reached_by : World → ℕ → ℕ → ServerConnection → RequestHeld → World
reached_by w k n s reached = record (with_no_failure w) {
  server = server w.server.library w.server.holders (with_numbered w.server.sides k (Some (side reached s.session)));
  connections = changed (λ l. record l { toward = drop n l.toward }) w.connections k;
}

-- the world after one request was carried out, with its reply in transit to the peer
abbrev pub carried : World → ℕ → PlainRequest → PlainReply → RequestHeld → TapeLibrary → PlainSession → List ℕ → World
carried w k request reply reached library session holders = record (with_no_failure w) {
  server = server library holders (with_numbered w.server.sides k (Some (side reached session)));
  connections = changed (answered request reply) w.connections k;
  opens = w.opens ++ option_to_list (option_map (opening k) (opened_reel request library session));
  lists = w.lists ++ option_to_list (option_map (λ reel. list_in w.caller) (opened_reel request library session));
  writings = w.writings ++ option_to_list (option_map (writing k (length w.opens)) (reel_written request library session));
}

-- The server's side found a request, which it carries out, or a fault, which ends it.
abbrev pub Finds : World → ℕ → Trouble → ServerConnection → Result (Option PlainRequest) WireFault → List ℕ → World → Type 0
Finds w k trouble s (Ok None) rest u = ⊥
Finds w k trouble s (Ok (Some request)) rest u =
    (reply : PlainReply) × (reached : RequestHeld) × (library : TapeLibrary) × (session : PlainSession) × (holders : List ℕ) × Unread reached rest
    × TroubledServe trouble w.server.holders k (session_view w.server.library s.session) request reply (session_view library session) holders
    × (u ≡ carried w k request reply reached library session holders)
Finds w k trouble s (Err fault) rest u = u ≡ ended_at (with_no_failure w) k

-- The world after the client was fed `n` bytes. Its new counts are recorded, and if its attempt is
-- over, it left the connection.
abbrev pub heard : World → ℕ → ℕ → WorldClient → Standing → ReplyHeld → Progress → World
heard w k n c at reader progress =
    after_client_call (counted_from (record (with_no_failure w) {
      connections = changed (λ l. record l { back = drop n l.back }) w.connections k;
      caller = Some (caller c.number at reader);
    })
    c.number k (drop (length c.at.counts) at.counts)) k at progress

-- `n` bytes reach the peer: a stranger drops them, and the client is fed them
abbrev pub Hears : Option AttemptState → World → ℕ → ℕ → List ℕ → World → Type 0
Hears None w k n piece u = u ≡ record (with_no_failure w) { connections = changed (λ l. record l { back = drop n l.back }) w.connections k }
Hears (Some dump) w k n piece u =
    (c : WorldClient) × (fed : List ℕ) × (at : Standing) × (reader : ReplyHeld) × (progress : Progress) × (w.caller ≡ Some c)
    × HasFedAt c.at.stage c.reader fed × FedAt c.at.stage c.at fed piece progress at
    × HasFedAt at.stage reader (unanswered at.stage (fed ++ piece)) × (u ≡ heard w k n c at reader progress)

-- the peer sees the end of the connection, and leaves it
abbrev pub SeesEnd : Option AttemptState → World → ℕ → World → Type 0
SeesEnd None w k u = u ≡ other_left (with_no_failure w) k
SeesEnd (Some dump) w k u =
    (c : WorldClient) × (at : Standing) × (reader : ReplyHeld) × (progress : Progress) × (w.caller ≡ Some c)
    × CutAt c.at.stage c.at progress at × HasFedAt at.stage reader []
    × (u ≡ after_client_call (record (given_up (with_no_failure w) k) { caller = Some (caller c.number at reader) }) k at progress)

-- the client left its own connection, if it has one
abbrev pub forgotten_from : World → Option ℕ → World
forgotten_from w None = w
forgotten_from w (Some k) = given_up w k

-- The client restarts. If no run is saved, it forgets its run. Otherwise it resumes the saved run
-- with the saved list, and is finished if this covers the run.
abbrev pub ResumesRun : Option Kept → World → World → Type 0
ResumesRun None w u = u ≡ record (forgotten_from (with_no_failure w) w.own) { caller = None }
ResumesRun (Some kept) w u =
    (b : Begun) × (at : Standing) × (reader : ReplyHeld) × (numbered w.begun kept.run ≡ Some b) × IsOver b.run kept.listed at
    × (u ≡ record (forgotten_from (with_no_failure w) w.own) { caller = Some (caller kept.run at reader) })

-- the saved run after the operator's answer, which drops it if it abandons the run
abbrev pub kept_after : Answer → Option Kept → Option Kept
kept_after Retry kept = kept
kept_after Abandon kept = None

-- the entry of a run in dumpdates
abbrev pub entry_of : PlainRun → DatesEntry
entry_of run = record { name = run.name; level = run.level; date = run.date }

-- the world after the client's run was entered in dumpdates, which drops the saved run
abbrev pub recorded : World → WorldClient → World
recorded w c = record (with_no_failure w) {
  entered = w.entered ++ record { run = c.number; listed = c.at.counts } ∷ [];
  kept = None;
  dates = entered w.dates (entry_of c.at.run);
}

-- One event, and the world after it. `Possible` says whether the event is possible.
abbrev pub WorldStep : World → PlainEvent → World → Type 0
WorldStep w (StartRun run payload) u = (reader : ReplyHeld) × (u ≡ begun w run payload reader)
WorldStep w Connect u = (c : WorldClient) × (w.caller ≡ Some c) × (c.at.stage ≡ Ready) × (u ≡ client_connected w c)
WorldStep w (Send fails) u =
    (c : WorldClient) × (step : Step) × (k : ℕ) × (b : Begun) × (w.caller ≡ Some c) × (c.at.stage ≡ ToSend step) × (w.own ≡ Some k)
    × (numbered w.begun c.number ≡ Some b) × Sends (is_failing fails step) w k c b.payload step u
WorldStep w (ToServer k n) u =
    (s : ServerConnection) × (l : Connection) × (reached : RequestHeld) × (side_of w.server k ≡ Some s) × (connection_of w k ≡ Some l)
    × IsPushed s.reached (take n l.toward) reached × (u ≡ reached_by w k n s reached)
WorldStep w (Serve k trouble) u =
    (s : ServerConnection) × (found : Result (Option PlainRequest) WireFault) × (bytes : List ℕ) × (rest : List ℕ) × (side_of w.server k ≡ Some s)
    × Unread s.reached bytes × ParsesAs bytes found rest × Finds w k trouble s found rest u
WorldStep w (ToClient k n) u = (l : Connection) × (connection_of w k ≡ Some l) × Hears l.dump w k n (take n l.back) u
WorldStep w (Cut k) u = u ≡ record (with_no_failure w) { connections = changed (λ l. record l { cut = true }) w.connections k }
WorldStep w (EndAtServer k) u = u ≡ ended_at (with_no_failure w) k
WorldStep w (EndAtClient k) u = (l : Connection) × (connection_of w k ≡ Some l) × SeesEnd l.dump w k u
WorldStep w ServerRestart u = u ≡ restarted (with_no_failure w)
WorldStep w ClientRestart u = ResumesRun w.kept w u
WorldStep w (Respond answer) u =
    (c : WorldClient) × (reader : ReplyHeld) × (w.caller ≡ Some c) × (c.at.stage ≡ Asking)
    × (u ≡ record (with_no_failure w) {
      caller = Some (caller c.number (standing c.at.run c.at.counts (stage_after answer)) reader);
      kept = kept_after answer w.kept;
    })
WorldStep w (Arrange drive reels) u =
    (d : ℕ) × IsDriveNamed drive w.server.library (Some d)
    × (u ≡ record (with_no_failure w) { server = server (arranged w.server.library d reels) w.server.holders w.server.sides })
WorldStep w Stranger u = u ≡ joined (with_no_failure w) None
WorldStep w (Says k bytes) u =
    u ≡ record (with_no_failure w) { connections = changed (λ l. record l { toward = sent_on l.cut l.toward bytes }) w.connections k }
WorldStep w Enter u = (c : WorldClient) × (w.caller ≡ Some c) × (u ≡ recorded w c)
WorldStep w Save u =
    (c : WorldClient) × (w.caller ≡ Some c) × (u ≡ record (with_no_failure w) { kept = Some (record { run = c.number; listed = c.at.counts }) })

-- the event is possible, and this is the world after it
abbrev pub Happens : World → PlainEvent → World → Type 0
Happens w event u = Possible w event × WorldStep w event u

-- the world after a list of events, one after the other, from the world `first`
pub data Runs (first : World) : List PlainEvent → World → Type 0 where
  none : Runs first [] first
  one_more : {events : List PlainEvent} {before after : World} (event : PlainEvent)
      → Runs first events before → Happens before event after → Runs first (events ++ event ∷ []) after
