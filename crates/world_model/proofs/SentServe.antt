-- A request of the client's is carried out.
use Rattle.world_model.proofs.Basics.{◌≡◌, ◌≢◌, ℕ, ◌+◌, ◌^◌, ◌<◌, Bool, true, false, List, [], ◌++◌, get_or, Option, Some, refl, sym, ap, subst, ◌∙◌, inl, inr, arith}
use Rattle.world_model.proofs.Terms.{raised, PlainRequest, SpellsRequest, request_text, WriteDropped, PlainReply, reply_text, RequestHeld, Unread, Trouble, TapeLibrary, ServerConnection, side, PlainSession, session_view, TroubledServeStep, SessionView, IsRun, label, request_of, wanted_of, Standing, attempt_at, Step, Open, Operation, Look, Label, Block, Close, Rewind, RewindAgain, Mark, Unload, Stage, ToSend, Waiting, World, Connection, AttemptState, Begun, WorldClient, numbered, sent_on, noted, noted_by, answered, HasDone, IsSessionBefore, Done, AreUnserved, request_in, IsPending, IsConnectionSettled, IsConnectionSent, LeadsOn, FitsReplyReader, IsStepReply, IsAttempt, IsStepAsked, IsStepReplied, IsConnectionToldAt, IsGood}
use Rattle.world_model.proofs.Moves.{Turn}
use Rattle.world_model.proofs.SentWire.{raised_one, OneReading, DroppedWrites, one_read, text_not_long, gives_whole}
use Rattle.world_model.proofs.SentSteps.{plain_brief, StaysOnline, IsPlain, StandsFirst, shown_brief, write_online, look_online, rewind_first}
use Rattle.world_model.proofs.SentLeads.{LeadsFrom, label_leads, block_leads, mark_leads, unload_leads}

-- what a note of a request leaves
pub record SameAttempt (d e : AttemptState) : Type 0 where
  pub run : e.run ≡ d.run
  pub volume : e.volume ≡ d.volume
  pub first : e.first ≡ d.first
  pub sent : e.sent ≡ d.sent
  pub carried : e.carried ≡ d.carried

pub noted_same : (d : AttemptState) (request : PlainRequest) (reply : PlainReply) → SameAttempt d (noted_by d request reply)
noted_same d request reply = grind arith

noted_attempt : (begun : List Begun) (c : WorldClient) (d : AttemptState) (step : Step) (b : Begun) (found : PlainRequest) (reply : PlainReply) → IsAttempt begun c d step b
    → IsAttempt begun c (noted found reply d) step b
noted_attempt begun c d step b found reply a = grind arith

-- no request of the client's is a write that is too long to be kept
pub never_dropped : (b : Begun) (d : AttemptState) (step : Step) (n : ℕ) → request_in b d step ≢ WriteDropped n
never_dropped b d step n = grind arith

pub nothing_there : DroppedWrites → (w : World) (v : Turn w) (way : List ℕ) → AreUnserved (Some v.s) way [] → ⊥
nothing_there h w v way given = grind (arith, one_read)

-- what is carried out then is the request that was sent last
pub serve_pending : OneReading → DroppedWrites → (w : World) (v : Turn w) (b : Begun) (way : List ℕ) (d : AttemptState) (step : Step) → IsPending b (Some v.s) way d step
    → (v.request ≡ request_in b d step) × IsConnectionSettled (Some (side v.reached v.session)) way (noted v.request v.reply d)
serve_pending g h w v b way d step p = elim p.unserved [
  | inr none ↦ absurd (nothing_there h w v way none)
  | inl (mine, was, is) ↦
      let text = request_text (request_in b d step) in
      let same = one_read h v.s.reached mine v.bytes (text_not_long g text mine way (request_in b d step) p.spelled (never_dropped b d step) is) was v.unread in
      let whole = gives_whole g text v.bytes way v.rest (request_in b d step) v.request p.spelled (is ∙ ap (λ l. l ++ way) same) v.gives in
      let keeps = noted_same d v.request v.reply in
      let one = raised_one d.carried (omega (arith, p.sent, p.few)) in (
        whole.0,
        record {
          sent = keeps.sent ∙ p.sent ∙ sym one ∙ sym (ap raised keeps.carried);
          unserved = ([], subst (Unread v.reached) whole.1 v.left, sym whole.2);
        },
      )
]

-- the step's own first block is that of the checkpoint, but at the close, whose reply ends the attempt
at_checkpoint : (o : Option ServerConnection) (old : Standing) (d noted : AttemptState) (step : Step) (reply : PlainReply) → d.first ≡ (attempt_at step old.counts).1
    → LeadsFrom o old d noted step reply → LeadsOn old.run o old noted step reply
at_checkpoint o old d noted step reply first leads progress new next becomes at = grind (arith, leads progress new next)

-- The reply to each step, and where it leads.
module _ (old : Standing) (payload : List (List ℕ)) (trouble : Trouble) (holders : List ℕ) (library library' : TapeLibrary) (s : ServerConnection) (reached : RequestHeld)
    (session : PlainSession) (d : AttemptState) (reply : PlainReply) where
  abbrev before : SessionView
  before = session_view library s.session

  abbrev after : SessionView
  after = session_view library' session

  pub served_leads : (step : Step) → IsRun old.run → HasDone old.run (Some s) d step → d.carried + 1 < 2 ^ 64
      → SpellsRequest (request_text (request_of old.run payload d.volume d.first step)) (request_of old.run payload d.volume d.first step)
      → TroubledServeStep trouble holders before (request_of old.run payload d.volume d.first step) reply after
      → FitsReplyReader (wanted_of step) reply × LeadsFrom (Some (side reached session)) old d (noted (request_of old.run payload d.volume d.first step) reply d) step reply
  served_leads Open good h few spelled step =
      let r : StandsFirst reply after = grind arith in
      (plain_brief reply r.0, grind arith)
  served_leads (Operation Rewind) good h few spelled step =
      let on = h.stands s refl in
      let r = rewind_first trouble holders before reply after on.1.0 on.0 on.1.1 step in
      (plain_brief reply r.0, grind arith)
  served_leads Look good h few spelled step =
      let on = h.stands s refl in
      let r = look_online trouble holders before reply after on.1.0 on.0 on.1.1 step in
      (shown_brief reply r.0, grind arith)
  served_leads (Operation RewindAgain) good h few spelled step =
      let on = h.stands s refl in
      let r = rewind_first trouble holders before reply after on.1.0 on.0 on.1.1 step in
      (plain_brief reply r.0, grind arith)
  served_leads Label good h few spelled step =
      let on = h.stands s refl in
      let bytes = label old.run d.volume d.first in
      let r = write_online trouble holders before bytes reply after on.1.0 on.0 (omega (arith, spelled.2)) on.1.1 step in
      (plain_brief reply r.0, label_leads old s (side reached session) d bytes reply h few r.1)
  served_leads (Block number) good h few spelled step =
      let on = h.stands s refl in
      let bytes = get_or payload number [] in
      let r = write_online trouble holders before bytes reply after on.1.0 on.0 (omega (arith, spelled.2)) on.1.1 step in
      (plain_brief reply r.0, block_leads old s (side reached session) d number bytes reply good h few r.1)
  served_leads (Operation (Mark next)) good h few spelled step =
      let on = h.stands s refl in
      let r : StaysOnline reply after = (let at = on.1.1 in grind arith) in
      (plain_brief reply r.0, mark_leads old s (side reached session) d next reply h few r.1)
  served_leads (Operation (Unload next)) good h few spelled step =
      let on = h.stands s refl in
      let r : IsPlain reply × ((n : ℕ) → reply ≡ Done n → IsSessionBefore Close session) = (let at = on.1.1 in grind arith) in
      (plain_brief reply r.0, unload_leads old s (side reached session) d next reply h few r.1)
  served_leads Close good h few spelled step =
      let on = h.stands s refl in
      (plain_brief reply (grind arith), grind arith)

module _ (w : World) (v : Turn w) where
  -- the request is carried out
  abbrev Carries : PlainRequest → Type 0
  Carries request = TroubledServeStep v.trouble w.server.holders (session_view w.server.library v.s.session) request v.reply (session_view v.library v.session)

  -- the client's own connection, at which it waits
  asked_replied : OneReading → DroppedWrites → (b : Begun) (l : Connection) (c : WorldClient) (d : AttemptState) (step : Step) → IsRun b.run → IsAttempt w.begun c d step b
      → IsStepAsked b (Some v.s) l c d step
      → IsStepReplied b (Some (side v.reached v.session)) (answered v.request v.reply l) c (noted v.request v.reply d) step
  asked_replied g h b l c d step good attempt a =
      let p = a.pending in
      let run = attempt.run in
      let done = serve_pending g h w v b l.toward d step p in
      let led = served_leads c.at b.payload v.trouble w.server.holders w.server.library v.library v.s v.reached v.session d v.reply step (subst IsRun run good)
      (subst (λ r. HasDone r (Some v.s) d step) run p.done) (omega (arith, p.sent, p.few))
      (subst (λ r. SpellsRequest (request_text (request_of r b.payload d.volume d.first step)) (request_of r b.payload d.volume d.first step)) run p.spelled)
      (subst (λ r. Carries (request_of r b.payload d.volume d.first step)) run (subst Carries done.0 v.served.step)) in
      let leads : LeadsOn b.run (Some (side v.reached v.session)) c.at (noted v.request v.reply d) step v.reply
      = subst (λ r. LeadsOn b.run (Some (side v.reached v.session)) c.at (noted r v.reply d) step v.reply) (sym done.0)
      (subst (λ r. LeadsOn r (Some (side v.reached v.session)) c.at (noted (request_of r b.payload d.volume d.first step) v.reply d) step v.reply) (sym run)
      (at_checkpoint (Some (side v.reached v.session)) c.at d (noted (request_of c.at.run b.payload d.volume d.first step) v.reply d) step v.reply attempt.first led.1)) in
      record { settled = done.1; fed = []; has = a.fed; reply = on_way l.cut leads led.0 }
    where
      on_way : (cut : Bool) → LeadsOn b.run (Some (side v.reached v.session)) c.at (noted v.request v.reply d) step v.reply → FitsReplyReader (wanted_of step) v.reply
          → IsStepReply b.run (Some (side v.reached v.session)) c.at (noted v.request v.reply d) step ([] ++ sent_on cut l.back (reply_text v.reply))
      on_way true leads brief = inl a.back
      on_way false leads brief = inr (v.reply, ap (λ x. x ++ reply_text v.reply) a.back, brief, leads)

  pub serve_sent : OneReading → DroppedWrites → (l : Connection) (d : AttemptState) → IsConnectionSent w.begun (Some v.s) l d
      → IsConnectionSent w.begun (Some (side v.reached v.session)) (answered v.request v.reply l) (noted v.request v.reply d)
  serve_sent g h l d (inl settled) = absurd (nothing_there h w v l.toward settled.unserved)
  serve_sent g h l d (inr (b, step, at, p)) = inl ((serve_pending g h w v b l.toward d step p).1)

  pub serve_told : OneReading → DroppedWrites → (stage : Stage) (l : Connection) (c : WorldClient) (d : AttemptState) → ((n : ℕ) (b : Begun) → numbered w.begun n ≡ Some b → IsGood b)
      → IsConnectionToldAt stage w.begun (Some v.s) l c d
      → IsConnectionToldAt stage w.begun (Some (side v.reached v.session)) (answered v.request v.reply l) c (noted v.request v.reply d)
  serve_told g h (Waiting step) l c d good (b, attempt, inl asked) =
      (b, noted_attempt w.begun c d step b v.request v.reply attempt, inr (asked_replied g h b l c d step (good d.run b attempt.begun_as).run attempt asked))
  serve_told g h (Waiting step) l c d good (b, attempt, inr replied) = absurd (nothing_there h w v l.toward replied.settled.unserved)
  serve_told g h (ToSend step) l c d good (b, attempt, turn) = absurd (nothing_there h w v l.toward turn.settled.unserved)
  serve_told g h stage l c d good told = tt
