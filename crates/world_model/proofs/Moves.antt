-- How an event moves the world: one row for each way in which it goes on. Each point of what stays so is proved from these rows.
use Rattle.world_model.proofs.Basics.{◌≡◌, ◌⊎◌, IsTrue, ℕ, ◌*◌, ◌<◌, ◌≤◌, Bool, true, false, List, [], ◌++◌, length, take, drop, map, Option, Some, None, Ok, refl, sym, ap, subst, ◌∙◌, inl, inr, arith, slice_index_or, length-map, length-append, same_Some}
use Rattle.world_model.proofs.Terms.{PlainRequest, ParsesAs, RequestHeld, Unread, ReplyHeld, Trouble, arranged, server, ServerConnection, side, session_view, PlainRun, IsRun, HasFedAt, unanswered, Standing, standing, FedAt, CutAt, IsOver, stage_after, AttemptFault, Answer, Progress, Ready, ToSend, Waiting, Asking, Finished, Step, Block, World, Connection, AttemptState, Begun, WorldClient, Count, Kept, numbered, PlainEvent, StartRun, Connect, Send, ToServer, Serve, ToClient, Cut, EndAtServer, EndAtClient, ServerRestart, ClientRestart, Respond, Arrange, Stranger, Says, Enter, Save, changed, side_of, connection_of, without_peer, sent_on, opened_reel, with_no_failure, given_up, joined, restarted, ended_at, counts_of, after_client_call, is_in_attempt, NoRun, IsRunEntered, MayBeKept, ServerTurn, Happens, Sends, Finds, Hears, SeesEnd, IsPushed, begun, client_connected, failed_read, asked, reached_by, carried, forgotten_from, kept_after, ResumesRun, recorded, caller}
use Rattle.dump_client.specs.declared.stage.Progress.TheVariants as came
use Rattle.world_model.proofs.Numbers.{with_here, with_twice, less_or_more, length_changed, numbered_more}
use Rattle.world_model.proofs.NamedRequests.{step_comes}
use Rattle.world_model.proofs.ServerMoves as server_moves
use Rattle.world_model.proofs.ServerMoves.{ServerMove, server_after}

-- the client sends its next request
pub record Sender (w : World) : Type 0 where
  pub c : WorldClient
  pub step : Step
  pub k : ℕ
  pub b : Begun
  pub reader : ReplyHeld
  pub there : w.caller ≡ Some c
  pub stage : c.at.stage ≡ ToSend step
  pub own : w.own ≡ Some k
  pub mine : numbered w.begun c.number ≡ Some b
  pub fed : HasFedAt (Waiting step) reader []

-- the server carries this request out: the turn, with the connection and the world after it
pub record Turn (w : World) : Type 0 where
  pub k : ℕ
  pub trouble : Trouble
  pub after : World
  pub turn : ServerTurn w k trouble after
  pub open turn use *

abbrev pub turned : (w : World) → Turn w → World
turned w t = carried w t.k t.request t.reply t.reached t.library t.session t.holders

-- the client hears these bytes on one of its connections
pub record Listens (w : World) : Type 0 where
  pub k : ℕ
  pub n : ℕ
  pub l : Connection
  pub d : AttemptState
  pub c : WorldClient
  pub fed : List ℕ
  pub at : Standing
  pub reader : ReplyHeld
  pub progress : Progress
  pub there : connection_of w k ≡ Some l
  pub dump : l.dump ≡ Some d
  pub other : IsTrue l.other
  pub some : 1 ≤ n
  pub within : n ≤ length l.back
  pub client : w.caller ≡ Some c
  pub had : HasFedAt c.at.stage c.reader fed
  pub feeds : FedAt c.at.stage c.at fed (take n l.back) progress at
  pub has : HasFedAt at.stage reader (unanswered at.stage (fed ++ take n l.back))

-- it sees the end of one of them
pub record Seeing (w : World) : Type 0 where
  pub k : ℕ
  pub l : Connection
  pub d : AttemptState
  pub c : WorldClient
  pub at : Standing
  pub reader : ReplyHeld
  pub progress : Progress
  pub there : connection_of w k ≡ Some l
  pub dump : l.dump ≡ Some d
  pub other : IsTrue l.other
  pub client : w.caller ≡ Some c
  pub cuts : CutAt c.at.stage c.at progress at

-- what happens on a stranger's connection: it says something, or drops what reached it, or its side is over
pub data Talking : Type 0 where
  says : (bytes : List ℕ) → Talking
  drops : (n : ℕ) → Talking
  leaves : Talking

abbrev pub talked : Talking → Connection → Connection
talked (says bytes) l = record l { toward = sent_on l.cut l.toward bytes }
talked (drops n) l = record l { back = drop n l.back }
talked leaves l = without_peer l

pub talked_dump : (t : Talking) (l : Connection) → (talked t l).dump ≡ l.dump
talked_dump t l = grind arith

-- the attempt is over
abbrev pub is_over : Progress → Bool
is_over (came.Failed fault) = true
is_over came.Ended = true
is_over progress = false

-- the client comes back with what is kept, or is gone
pub data Back (w : World) : Type 0 where
  gone : w.kept ≡ None → Back w
  comes : (z : Kept) (b : Begun) (at : Standing) (reader : ReplyHeld) → w.kept ≡ Some z → numbered w.begun z.run ≡ Some b → IsOver b.run z.listed at → Back w

abbrev pub back_caller : (w : World) → Back w → Option WorldClient
back_caller w (gone none) = None
back_caller w (comes z b at reader kept begun over) = Some (caller z.run at reader)

-- whoever is there then is in no attempt
pub back_idle : (w : World) (x : Back w) (c : WorldClient) → back_caller w x ≡ Some c → IsTrue (is_in_attempt c.at.stage) → ⊥
back_idle w x c is inside = grind arith

abbrev Failure : Type 0
Failure = Option (ℕ × AttemptFault)

-- What an event does, and what is known where it does. A run is begun; an attempt starts; the client sends, or its read of a block
-- fails; bytes reach the server; a request is carried out; the server's side is over, or all are; a stranger's connection is cut,
-- says or hears; the client hears and goes on, or its attempt is over then, or it sees the end; it starts again, out of an attempt or
-- in one; it is answered; a stack is arranged; a stranger comes; a run is entered, or kept.
pub data Move (w : World) : Type 0 where
  begins : (run : PlainRun) (payload : List ℕ) (reader : ReplyHeld) → NoRun w → IsRun run → length payload ≡ run.blocks * run.block_bytes → Move w
  connects : (c : WorldClient) → w.caller ≡ Some c → c.at.stage ≡ Ready → Move w
  asks : Sender w → Move w
  fails : (k n : ℕ) (c : WorldClient) (reader : ReplyHeld) → w.caller ≡ Some c → c.at.stage ≡ ToSend (Block n) → w.own ≡ Some k → Move w
  reaches : (k n : ℕ) (s : ServerConnection) (l : Connection) (reached : RequestHeld) → side_of w.server k ≡ Some s → connection_of w k ≡ Some l
      → IsPushed s.reached (take n l.toward) reached → Move w
  serves : Turn w → Move w
  ends : (k : ℕ) → Move w
  restarts : Move w
  cuts : (k : ℕ) → Move w
  talks : (k : ℕ) (l : Connection) (t : Talking) → connection_of w k ≡ Some l → l.dump ≡ None → Move w
  hears : (t : Listens w) → is_over t.progress ≡ false → Move w
  hears_last : (t : Listens w) → Failure → is_over t.progress ≡ true → Move w
  sees : Seeing w → Failure → Move w
  forgets : Back w → w.own ≡ None → Move w
  gives_up : Back w → (k : ℕ) → w.own ≡ Some k → Move w
  answers : (c : WorldClient) (answer : Answer) (reader : ReplyHeld) → w.caller ≡ Some c → c.at.stage ≡ Asking → Move w
  arranges : (d : ℕ) (names : List (List ℕ)) → d < length w.server.library.drives → slice_index_or w.server.holders d 0 ≡ 0 → Move w
  joins : Move w
  enters : (c : WorldClient) → w.caller ≡ Some c → c.at.stage ≡ Finished → (IsRunEntered w c.number → ⊥) → Move w
  saves : (c : WorldClient) → w.caller ≡ Some c → MayBeKept w c → Move w

-- what the client counts then
abbrev pub told_counts : (w : World) → Listens w → List Count
told_counts w t = map (counts_of w t.c.number t.k) (drop (length t.c.at.counts) t.at.counts)

-- the client heard
abbrev heard_by : (w : World) → Listens w → World
heard_by w t = record (with_no_failure w) {
  connections = changed (λ l. record l { back = drop t.n l.back }) w.connections t.k;
  caller = Some (caller t.c.number t.at t.reader);
  counts = w.counts ++ told_counts w t;
}

-- the world after it
abbrev pub moved : (w : World) → Move w → World
moved w (begins run payload reader none good long) = begun w run payload reader
moved w (connects c there ready) = client_connected w c
moved w (asks t) = asked w t.k t.c t.b.payload t.step t.reader
moved w (fails k n c reader there stage own) = failed_read w k c reader
moved w (reaches k n s l reached live at grows) = reached_by w k n s reached
moved w (serves t) = turned w t
moved w (ends k) = ended_at (with_no_failure w) k
moved w restarts = restarted (with_no_failure w)
moved w (cuts k) = record (with_no_failure w) { connections = changed (λ l. record l { cut = true }) w.connections k }
moved w (talks k l t at none) = record (with_no_failure w) { connections = changed (talked t) w.connections k }
moved w (hears t on) = heard_by w t
moved w (hears_last t failure over) = record (given_up w t.k) {
  caller = Some (caller t.c.number t.at t.reader);
  counts = w.counts ++ told_counts w t;
  failure = failure;
}
moved w (sees t failure) = record (given_up w t.k) { caller = Some (caller t.c.number t.at t.reader); failure = failure }
moved w (forgets x none) = record (with_no_failure w) { caller = back_caller w x }
moved w (gives_up x k own) = record (given_up (with_no_failure w) k) { caller = back_caller w x }
moved w (answers c answer reader there stage) =
    record (with_no_failure w) { caller = Some (caller c.number (standing c.at.run c.at.counts (stage_after answer)) reader); kept = kept_after answer w.kept }
moved w (arranges d names within free) = record (with_no_failure w) { server = server (arranged w.server.library d names) w.server.holders w.server.sides }
moved w joins = joined (with_no_failure w) None
moved w (enters c there stage not_yet) = recorded w c
moved w (saves c there may) = record (with_no_failure w) { kept = Some (record { run = c.number; listed = c.at.counts }) }

-- what it makes of the hall
abbrev pub server_move : (w : World) → Move w → ServerMove w.server
server_move w (connects c there ready) = server_moves.joins
server_move w (reaches k n s l reached live at grows) = server_moves.reads k s reached live (grows.0.0 ++ take n l.toward, grows.1 grows.0.0 grows.0.1)
server_move w (serves t) =
    server_moves.serves t.k t.s (side t.reached t.session) t.library t.holders (opened_reel t.request t.library t.session) t.live (t.rest, t.left)
    (step_comes t.trouble w.server.holders (session_view w.server.library t.s.session) t.request t.reply (session_view t.library t.session) t.served.step) t.served.held
server_move w (ends k) = server_moves.ends k
server_move w restarts = server_moves.restarts
server_move w (arranges d names within free) = server_moves.arranges d names within free
server_move w joins = server_moves.joins
server_move w m = server_moves.leaves

pub server_moved : (w : World) (m : Move w) → (moved w m).server ≡ server_after w.server (server_move w m)
server_moved w m = grind arith

pub connections_more : (w : World) (m : Move w) → length w.connections ≤ length (moved w m).connections
connections_more w m = grind (arith, length-append, length-map, length_changed)

-- no run goes
pub begun_more : (w : World) (m : Move w) (n : ℕ) (b : Begun) → numbered w.begun n ≡ Some b → numbered (moved w m).begun n ≡ Some b
begun_more w m n b at = grind (arith, numbered_more)

over_then : (f : Connection → Connection) → ((l : Connection) → without_peer (f l) ≡ without_peer l) → (xs : List Connection) (k : ℕ)
    → changed without_peer (changed f xs k) k ≡ changed without_peer xs k
over_then f same xs k = (grind (arith, with_here, with_twice))

-- what came of the client's call: it goes on, or its connection is over
came_on : (v : World) (k : ℕ) (at : Standing) (progress : Progress)
    → ((is_over progress ≡ false) × (after_client_call v k at progress ≡ v))
    ⊎ ((is_over progress ≡ true) × ((failure : Failure) × (after_client_call v k at progress ≡ record (given_up v k) { failure = failure })))
came_on v k at progress = grind arith

-- the world goes on so
abbrev Moves : World → World → Type 0
Moves w u = (m : Move w) × (u ≡ moved w m)

-- a read fails in a block alone
sends_moves : (failing : Bool) (w : World) (k : ℕ) (c : WorldClient) (step : Step) (b : Begun) (u : World) → (failing ≡ true → (n : ℕ) × (step ≡ Block n)) → w.caller ≡ Some c
    → c.at.stage ≡ ToSend step → w.own ≡ Some k → numbered w.begun c.number ≡ Some b → Sends failing w k c b.payload step u → Moves w u
sends_moves true w k c step b u block there stage own mine (reader, is) = let n = block refl in (fails k n.0 c reader there (stage ∙ ap ToSend n.1) own, is)
sends_moves false w k c step b u block there stage own mine (reader, fed, is) =
    (asks record { c = c; step = step; k = k; b = b; reader = reader; there = there; stage = stage; own = own; mine = mine; fed = fed }, is)

abbrev pub turn_of : (w : World) (k : ℕ) (trouble : Trouble) (s : ServerConnection) (request : PlainRequest) (bytes rest : List ℕ) (u : World) → side_of w.server k ≡ Some s → Unread s.reached bytes
    → ParsesAs bytes (Ok (Some request)) rest → Finds w k trouble s (Ok (Some request)) rest u → ServerTurn w k trouble u
turn_of w k trouble s request bytes rest u live unread gives (reply, reached, library, session, holders, left, served, is) = record {
  s = s;
  request = request;
  bytes = bytes;
  rest = rest;
  reply = reply;
  reached = reached;
  library = library;
  session = session;
  holders = holders;
  live = live;
  unread = unread;
  gives = gives;
  left = left;
  served = served;
  is = is;
}

abbrev pub carries_turn : (w u : World) (k : ℕ) (trouble : Trouble) → ServerTurn w k trouble u → Turn w
carries_turn w u k trouble c = record { k = k; trouble = trouble; after = u; turn = c }

pub carries : (w u : World) (k : ℕ) (trouble : Trouble) → Happens w (Serve k trouble) u → ServerTurn w k trouble u ⊎ (u ≡ ended_at (with_no_failure w) k)
carries w u k trouble (may, (s, found, bytes, rest, live, unread, gives, finds)) = (grind arith)

listens_moves : (w : World) (t : Listens w) (u : World) → u ≡ after_client_call (heard_by w t) t.k t.at t.progress → Moves w u
listens_moves w t u is = elim (came_on (heard_by w t) t.k t.at t.progress) [
  | inl (on, same) ↦ (hears t on, is ∙ same)
  | inr (over, (failure, same)) ↦ (
    hears_last t failure over,
    is ∙ same ∙ ap (λ ls. record (moved w (hears_last t failure over)) { connections = ls }) (over_then (λ l. record l { back = drop t.n l.back }) (λ l. refl) w.connections t.k),
  )
]

hears_moves : (o : Option AttemptState) (w : World) (k n : ℕ) (l : Connection) (u : World) → connection_of w k ≡ Some l → l.dump ≡ o → IsTrue l.other → 1 ≤ n → n ≤ length l.back
    → Hears o w k n (take n l.back) u → Moves w u
hears_moves None w k n l u at none other some within is = (talks k l (drops n) at none, is)
hears_moves (Some dump) w k n l u at its other some within (c, fed, new, reader, progress, there, had, feeds, has, is) =
    listens_moves w record {
      k = k;
      n = n;
      l = l;
      d = dump;
      c = c;
      fed = fed;
      at = new;
      reader = reader;
      progress = progress;
      there = at;
      dump = its;
      other = other;
      some = some;
      within = within;
      client = there;
      had = had;
      feeds = feeds;
      has = has;
    } u is

sees_moves : (o : Option AttemptState) (w : World) (k : ℕ) (l : Connection) (u : World) → connection_of w k ≡ Some l → l.dump ≡ o → IsTrue l.other → SeesEnd o w k u → Moves w u
sees_moves None w k l u at none other is = (talks k l leaves at none, is)
sees_moves (Some dump) w k l u at its other (c, new, reader, progress, there, ended, has, is) =
    let t : Seeing w
    = record { k = k; l = l; d = dump; c = c; at = new; reader = reader; progress = progress; there = at; dump = its; other = other; client = there; cuts = ended } in
    elim (came_on (moved w (sees t None)) k new progress) [
      | inl (on, same) ↦ (sees t None, is ∙ same)
      | inr (over, (failure, same)) ↦ (
        sees t failure,
        is ∙ same ∙ ap (λ ls. record (moved w (sees t failure)) { connections = ls }) (over_then without_peer (λ x. refl) w.connections k),
      )
    ]

forgets_moves : (w : World) (x : Back w) (o : Option ℕ) (u : World) → w.own ≡ o → u ≡ record (forgotten_from (with_no_failure w) o) { caller = back_caller w x } → Moves w u
forgets_moves w x None u own is = (forgets x own, is)
forgets_moves w x (Some k) u own is = (gives_up x k own, is)

back_moves : (w : World) (o : Option Kept) (u : World) → w.kept ≡ o → ResumesRun o w u → Moves w u
back_moves w None u kept is = forgets_moves w (gone kept) w.own u refl is
back_moves w (Some z) u kept (b, at, reader, begun, over, is) = forgets_moves w (comes z b at reader kept begun over) w.own u refl is

-- each event moves the world
pub happened : (w : World) (event : PlainEvent) (u : World) → Happens w event u → Moves w u
happened w (StartRun run payload) u ((none, good, long), (reader, is)) = (begins run payload reader none good long, is)
happened w Connect u (may, (c, there, ready, is)) = (connects c there ready, is)
happened w (Send failing) u (may, (c, step, k, b, there, stage, own, mine, sends)) = grind (arith, sends_moves)
happened w (ToServer k n) u (may, (s, l, reached, live, at, grows, is)) = (reaches k n s l reached live at grows, is)
happened w (Serve k trouble) u happens = elim (carries w u k trouble happens) [ inl c ↦ (serves (carries_turn w u k trouble c), c.is) | inr is ↦ (ends k, is) ]
happened w (ToClient k n) u ((x, (there, other), (some, within)), (l, at, heard)) = grind (arith, hears_moves)
happened w (Cut k) u (may, is) = (cuts k, is)
happened w (EndAtServer k) u (may, is) = (ends k, is)
happened w (EndAtClient k) u ((x, (there, other), cut), (l, at, seen)) = grind (arith, sees_moves, same_Some)
happened w ServerRestart u (may, is) = (restarts, is)
happened w ClientRestart u (may, back) = back_moves w w.kept u refl back
happened w (Respond answer) u (may, (c, reader, there, stage, is)) = (answers c answer reader there stage, is)
happened w (Arrange drive reels) u ((e, found, free, distinct, piled), (d, named, is)) =
    (arranges d reels named.0 (subst (λ x. slice_index_or w.server.holders x 0 ≡ 0) (grind (arith, less_or_more)) free), is)
happened w Stranger u (may, is) = (joins, is)
happened w (Says k bytes) u ((x, (there, other), none), is) = (talks k x (says bytes) there none, is)
happened w Enter u ((x, at, stage, not_yet), (c, there, is)) =
    let same : x ≡ c = same_Some x c (sym at ∙ there) in
    (enters c there (ap (λ (z : WorldClient). z.at.stage) (sym same) ∙ stage) (λ e. not_yet (subst (λ (z : WorldClient). IsRunEntered w z.number) (sym same) e)), is)
happened w Save u ((x, at, may), (c, there, is)) = (saves c there (subst (MayBeKept w) (same_Some x c (sym at ∙ there)) may), is)
