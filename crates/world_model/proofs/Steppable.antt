-- A client can take any bytes and the end of a connection, and readers can keep any bytes.
-- In a world where all is kept each possible event has a step.
use Rattle.world_model.proofs.Basics.{◌≡◌, IsTrue, ℕ, ◌<◌, ◌≤◌, false, List, [], ◌∷◌, ◌++◌, length, append_assoc, length-append, Option, Some, None, Result, Ok, Err, refl, ap, ◌∙◌, inl, inr, arith, take-append-drop, take-append-le, drop-append-le, Bool, true, take, drop, sym, subst}
use Rattle.world_model.proofs.Terms.{PlainReply, Wanted, ReplyParsesAs, reply_held, IsDroppedLine, RequestHeld, held, Unread, UnreadAt, WireFault, READER_LIMIT, wanted_of, IsReaderWaiting, is_more, Standing, FedAt, CutAt, Progress, Stage, ToSend, Waiting, Step, IsAtRest, outcome_can, is_in_attempt, PlainRequest, reply_text, ReplyHeld, ServerConnection, session_view, Trouble, HasFedAt, unanswered, over_can, World, Connection, AttemptState, WorldClient, Kept, PlainEvent, StartRun, Connect, Send, ToServer, Serve, ToClient, EndAtClient, ClientRestart, Respond, Arrange, Enter, Save, side_of, connection_of, IsWorldKept, Possible, IsConnectionToldAt, Happens, Sends, Finds, Hears, SeesEnd, ResumesRun, is_failing}
use Rattle.rmt_wire.specs.ReplyFront.{kept_of}
use Rattle.rmt_wire.specs.RequestReader.{dropped_line}
use Rattle.world_model.proofs.SentWire.{DroppedWrites, no_more_kept, brief_begins}
use Rattle.world_model.proofs.StepsServed.{serve_can}
use Rattle.dump_client.specs.declared.stage.Progress.TheVariants as moved

-- A reader can return a result for the bytes that came since it began to wait.
abbrev pub SomeAnswer : Type 0
SomeAnswer = (wanted : Option Wanted) (bytes : List ℕ)
    → (answer : Result (Option PlainReply) WireFault) × (rest : List ℕ) × ReplyParsesAs wanted bytes answer rest

-- The connection ends.
pub cut_can : (old : Standing) (stage : Stage) → IsTrue (is_in_attempt stage)
    → (progress : Progress) × (new : Standing) × CutAt stage old progress new × IsAtRest new.stage
cut_can old (ToSend step) under = outcome_can old _ false
cut_can old (Waiting step) under = outcome_can old _ false
cut_can old stage under = absurd cc

-- fewer bytes than a reader takes were fed to a client that waits: it waits on, or is at rest
waits_can : (old : Standing) (step : Step) (fed piece : List ℕ) → old.stage ≡ Waiting step → length (fed ++ piece) < READER_LIMIT
    → (answer : Result (Option PlainReply) WireFault) × (rest : List ℕ) × ReplyParsesAs (Some (wanted_of step)) (fed ++ piece) answer rest
    → (progress : Progress) × (new : Standing) × (reader : ReplyHeld) × FedAt (Waiting step) old fed piece progress new
    × HasFedAt new.stage reader (unanswered new.stage (fed ++ piece))
waits_can old step fed piece is short (Ok None, rest, gives) =
    let reader = reply_held (Some (wanted_of step)) (kept_of (fed ++ piece)) in
    let has : HasFedAt (Waiting step) reader (fed ++ piece) = grind (arith, no_more_kept) in
    (moved.Waiting, old, reader, (Ok None, rest, gives, (refl, refl)), subst (λ s. HasFedAt s reader (unanswered s (fed ++ piece))) (sym is) has)
waits_can old step fed piece is short (Ok (Some reply), rest, gives) =
    let h = outcome_can old _ (is_more rest) in
    (h.0, h.1, reply_held None [], (Ok (Some reply), rest, gives, h.2), h.3.fed (fed ++ piece))
waits_can old step fed piece is short (Err fault, rest, gives) =
    let h = outcome_can old _ false in
    (h.0, h.1, reply_held None [], (Err fault, rest, gives, h.2), h.3.fed (fed ++ piece))

asks_can : (wanted : Wanted) → (answer : Result (Option PlainReply) WireFault) × (rest : List ℕ) × ReplyParsesAs (Some wanted) [] answer rest
    → IsReaderWaiting wanted (reply_held (Some wanted) (kept_of [])) []
asks_can wanted (Ok None, rest, gives) = grind (arith, no_more_kept)
asks_can wanted (Ok (Some reply), rest, (text, spelled, is)) = absurd (grind arith)
asks_can wanted (Err fault, rest, (f, none, same)) = absurd (omega (arith, ap length f.split, length-append f.seen (f.byte ∷ f.later)))

pub held_can : (bytes : List ℕ) → Unread (held bytes 0) bytes
held_can bytes = (grind (arith, take-append-drop))

-- a line that a dropped write begins with is within the bytes, and begins them still where more follow
line_within : (bytes : List ℕ) (line : ℕ × ℕ) → IsDroppedLine bytes line.0 line.1 → line.0 ≤ length bytes
line_within bytes line d = grind (arith, length-append)

-- a piece follows what was unread
pushed_at : DroppedWrites → (h : RequestHeld) (piece bytes : List ℕ) (o : Option (ℕ × ℕ)) → dropped_line h.kept ≡ o → UnreadAt o h bytes
    → Unread (held (h.kept ++ piece) h.dropped) (bytes ++ piece)
pushed_at g h piece bytes None is (none, same) = grind (arith, held_can)
pushed_at g h piece bytes (Some line) is (gone, many, few, same) =
    let d = (g h.kept line.0 line.1).0 is in
    let within = line_within h.kept line d in
    let still : dropped_line (h.kept ++ piece) ≡ Some line = (g (h.kept ++ piece) line.0 line.1).1 (grind (arith, append_assoc)) in
    grind (arith, append_assoc, drop-append-le, take-append-le)

pub pushed_can : DroppedWrites → (h : RequestHeld) (piece bytes : List ℕ) → Unread h bytes → Unread (held (h.kept ++ piece) h.dropped) (bytes ++ piece)
pushed_can g h piece bytes unread = pushed_at g h piece bytes (dropped_line h.kept) refl unread

sends_can : SomeAnswer → (failing : Bool) (w : World) (k : ℕ) (c : WorldClient) (payload : List (List ℕ)) (step : Step) → (u : World) × Sends failing w k c payload step u
sends_can g true w k c payload step = (_, (reply_held None [], refl))
sends_can g false w k c payload step = (_, (reply_held (Some (wanted_of step)) (kept_of []), asks_can (wanted_of step) (g (Some (wanted_of step)) []), refl))

finds_can : (w : World) (k : ℕ) (trouble : Trouble) (s : ServerConnection) (found : Result (Option PlainRequest) WireFault) (rest : List ℕ) → (found ≡ Ok None → ⊥)
    → (u : World) × Finds w k trouble s found rest u
finds_can w k trouble s (Ok (Some request)) rest some =
    let v = serve_can trouble w.server.holders (session_view w.server.library s.session) request in
    (_, (v.0, held rest 0, v.1.library, v.1.session, _, held_can rest, record { step = v.2; held = refl }, refl))
finds_can w k trouble s found rest some = grind arith

-- the client of a live connection of the client's
client_of : (w : World) (k : ℕ) (l : Connection) (d : AttemptState) → IsWorldKept w → connection_of w k ≡ Some l → IsTrue l.other → l.dump ≡ Some d
    → (w.own ≡ Some k) × ((c : WorldClient) × (w.caller ≡ Some c) × IsTrue (is_in_attempt c.at.stage))
client_of w k l d kept at other dump =
    let own = kept.owned.only k (l, d, at, other, dump) in
    (own, (kept.owned.own k own).1)

-- what a client that waits hears of a part of what is on the way
hears_at : SomeAnswer → (w : World) (l : Connection) (k n : ℕ) (d : AttemptState) (c : WorldClient) (stage : Stage) → c.at.stage ≡ stage → IsTrue (is_in_attempt stage) → 1 ≤ n
    → n ≤ length l.back → IsConnectionToldAt stage w.begun (side_of w.server k) l c d
    → (fed : List ℕ) × (at : Standing) × (reader : ReplyHeld) × (progress : Progress) × HasFedAt stage c.reader fed × FedAt stage c.at fed (take n l.back) progress at
    × HasFedAt at.stage reader (unanswered at.stage (fed ++ take n l.back))
hears_at g w l k n d c (ToSend step) is attempt some within (b, mine, turn) = grind arith
hears_at g w l k n d c (Waiting step) is attempt some within (b, mine, inl asked) = grind arith
hears_at g w l k n d c (Waiting step) is attempt some within (b, mine, inr replied) = elim replied.reply [
  | inl nothing ↦ (
      absurd (omega (arith, ap length nothing, length-append replied.fed l.back, some, within)))
  | inr (reply, text, brief, leads) ↦
      let bytes : reply_text reply ≡ (replied.fed ++ take n l.back) ++ drop n l.back
      = sym text ∙ ap (λ x. replied.fed ++ x) (sym (take-append-drop n l.back)) ∙ sym (append_assoc replied.fed (take n l.back) (drop n l.back)) in
      let heard = waits_can c.at step replied.fed (take n l.back) is (brief_begins (wanted_of step) reply (replied.fed ++ take n l.back) (drop n l.back) brief bytes).1
      (g (Some (wanted_of step)) (replied.fed ++ take n l.back)) in
      (replied.fed, heard.1, heard.2, heard.0, replied.has, heard.3, heard.4)
]
hears_at g w l k n d c stage is attempt some within told = absurd cc

hears_can : SomeAnswer → (w : World) (k n : ℕ) (l : Connection) (o : Option AttemptState) → l.dump ≡ o → IsWorldKept w → connection_of w k ≡ Some l → IsTrue l.other → 1 ≤ n → n ≤ length l.back
    → (u : World) × Hears o w k n (take n l.back) u
hears_can g w k n l None is kept at other some within = (_, refl)
hears_can g w k n l (Some d) is kept at other some within =
    let (own, (c, there, attempt)) = client_of w k l d kept at other is in
    let h = hears_at g w l k n d c c.at.stage refl attempt some within ((kept.told.each k l at).own d c is own there) in
    (_, (c, h.0, h.1, h.2, h.3, there, h.4, h.5, h.6, refl))

sees_can : (w : World) (k : ℕ) (l : Connection) (o : Option AttemptState) → l.dump ≡ o → IsWorldKept w → connection_of w k ≡ Some l → IsTrue l.other → (u : World) × SeesEnd o w k u
sees_can w k l None is kept at other = (_, refl)
sees_can w k l (Some d) is kept at other =
    let (own, (c, there, attempt)) = client_of w k l d kept at other is in
    let h = cut_can c.at c.at.stage attempt in
    (_, (c, h.1, reply_held None [], h.0, there, h.2, h.3.none, refl))

-- a client comes back with what is kept, finished where that covers the run
back_can : (w : World) (o : Option Kept) → w.kept ≡ o → IsWorldKept w → (u : World) × ResumesRun o w u
back_can w None is kept = (_, refl)
back_can w (Some z) is kept =
    let q = kept.booked.kept z is in
    let over = over_can q.begun.run z.listed in
    (_, (q.begun, over.0, reply_held None [], q.begun_as, over.1, refl))

pub steps : SomeAnswer → DroppedWrites → (w : World) (event : PlainEvent) → IsWorldKept w → Possible w event → (u : World) × Happens w event u
steps g h w (StartRun run payload) kept may = (_, (may, (reply_held None [], refl)))
steps g h w Connect kept may = let (c, there, ready) = may in (_, (may, (c, there, ready, refl)))
steps g h w (Send fails) kept may =
    let (c, there, (step, stage)) = may in
    let own = kept.owned.attempt c there (subst (λ s. IsTrue (is_in_attempt s)) (sym stage) refl) in
    let b = kept.booked.begun c there in
    let sent = sends_can g (is_failing fails step) w own.0 c b.0.payload step in
    (sent.0, (may, (c, step, own.0, b.0, there, stage, own.1, b.1, sent.1)))
steps g h w (ToServer k n) kept may =
    let (s, l, live, at, part, room) = may in
    (_, (may, (s, l, held (s.reached.kept ++ take n l.toward) s.reached.dropped, live, at, (kept.readable k s live, pushed_can h s.reached (take n l.toward)), refl)))
steps g h w (Serve k trouble) kept may =
    let (s, found, live, (bytes, rest, unread, gives, some)) = may in
    let turn = finds_can w k trouble s found rest some in
    (turn.0, (may, (s, found, bytes, rest, live, unread, gives, turn.1)))
steps g h w ClientRestart kept may = let back = back_can w w.kept refl kept in (back.0, (may, back.1))
steps g h w Save kept may = let (c, there, keeps) = may in (_, (may, (c, there, refl)))
steps g h w (Respond answer) kept may = let (c, there, asks) = may in (_, (may, (c, reply_held None [], there, asks, refl)))
steps g h w (Arrange drive reels) kept may = let (d, named, free, distinct, piled) = may in (_, (may, (d, named, refl)))
steps g h w Enter kept may = let (c, there, finished, fresh) = may in (_, (may, (c, there, refl)))
steps g h w (ToClient k n) kept may =
    let (l, (at, other), (some, within)) = may in
    let heard = hears_can g w k n l l.dump refl kept at other some within in
    (heard.0, (may, (l, at, heard.1)))
steps g h w (EndAtClient k) kept may =
    let (l, (at, other), cut) = may in
    let seen = sees_can w k l l.dump refl kept at other in
    (seen.0, (may, (l, at, seen.1)))
steps g h w x kept may = (_, (may, refl))
