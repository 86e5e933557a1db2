-- How a reply, or a piece of it, changes a client: the facts about its connection then, and its count.
use Rattle.world_model.proofs.Basics.{◌≡◌, ℕ, ◌+◌, false, List, [], ◌++◌, append_assoc, IsTrue, ◌⊎◌, ◌∷◌, map, Contains, Contains-push_cases, take, drop, Option, Some, None, Result, Ok, Err, sym, append-nil, take-append-drop, arith, ◌≢◌, ◌≤◌, length, length-append, refl, ap, subst, ◌∙◌, inl, inr, same_Some, take_at}
use Rattle.world_model.proofs.Terms.{PlainReply, SpellsReply, reply_text, ReplyParsesAs, ReplyHeld, WireFault, wanted_of, Reply, Standing, ReceivesAt, FedAt, Makes, HasFedAt, Step, Progress, Waiting, FitsReplyReader, checkpoint_of, attempt_at, unanswered, VolumeCount, Close, Stage, ToSend, HeardAs, World, Connection, Begun, WorldClient, side_of, caller, IsOwned, GoesTo, LeadsOn, IsAttempt, IsConnectionToldAt, IsConnectionSettled, AreTold, is_in_attempt, heard_as, count_to, counts_of, Count}
use Rattle.world_model.proofs.Ground.{OneReply, one_heard, brief_begins, reply_whole, reply_no_fault, changed_told, Listens, is_over, told_counts, drop_front}
use Rattle.dump_client.specs.declared.stage.Progress.TheVariants as came
use Rattle.world_model.proofs.Moves as move

-- Given these bytes, and those after them on the way: the client waits on, or it heard the whole reply and nothing comes after it.
pub data HearsPiece (old : Standing) (step : Step) (reply : PlainReply) (bytes way : List ℕ) (progress : Progress) (new : Standing) : Type 0 where
  waits : progress ≡ came.Waiting → new ≡ old → reply_text reply ≡ bytes ++ way → HearsPiece old step reply bytes way progress new
  whole : SpellsReply bytes reply (wanted_of step) → way ≡ [] → ReceivesAt old step (Reply reply) false progress new → HearsPiece old step reply bytes way progress new

hearing_of : OneReply → (old new : Standing) (step : Step) (reply : PlainReply) (bytes rest way : List ℕ) (progress : Progress) (seen : Result (Option PlainReply) WireFault)
    → FitsReplyReader (wanted_of step) reply → reply_text reply ≡ bytes ++ way → ReplyParsesAs (Some (wanted_of step)) bytes seen rest → Makes old step bytes seen rest progress new → HearsPiece old step reply bytes way progress new
hearing_of g old new step reply bytes rest way progress (Ok None) brief text gives (moved, is) = waits moved is text
hearing_of g old new step reply bytes rest way progress (Ok (Some found)) brief text gives hears =
    let all = reply_whole g (wanted_of step) (reply_text reply) bytes way rest reply found brief.spelled text gives in
    grind (arith, append-nil)
hearing_of g old new step reply bytes rest way progress (Err fault) brief text gives hears =
    absurd (reply_no_fault (wanted_of step) (reply_text reply) bytes way rest reply fault brief.spelled text gives)

-- a piece of what is on the way was fed to it
pub hearing : OneReply → (reader : ReplyHeld) (old new : Standing) (step : Step) (reply : PlainReply) (before fed back : List ℕ) (n : ℕ) (progress : Progress)
    → FitsReplyReader (wanted_of step) reply → before ++ back ≡ reply_text reply → HasFedAt (Waiting step) reader before → HasFedAt (Waiting step) reader fed → FedAt (Waiting step) old fed (take n back) progress new
    → HearsPiece old step reply (fed ++ take n back) (drop n back) progress new
hearing g reader old new step reply before fed back n progress brief is has had (seen, rest, gives, makes) =
    let begins = brief_begins (wanted_of step) reply before back brief (sym is) in
    let same : before ≡ fed = one_heard reader (wanted_of step) before fed begins.0 has.unread had.unread in
    grind (arith, hearing_of, take-append-drop, append_assoc)

-- the checkpoint of an attempt before its close, and at the close of what is counted then
pub open_attempt : (counts : List VolumeCount) (step : Step) → step ≢ Close → attempt_at step counts ≡ checkpoint_of counts
open_attempt counts step other = grind arith

pub unlike_close : (old new : Standing) (step next : Step) (reply : PlainReply) (progress : Progress) → ReceivesAt old step (Reply reply) false progress new → new.stage ≡ ToSend next
    → step ≢ Close
unlike_close old new step next reply progress hears at = grind arith

-- A reply that a client hears: the attempt on whose connection it comes, the step that it answers, and the piece that was heard of it.
pub record IsHearing (w : World) (t : Listens w) : Type 0 where
  pub step : Step
  pub b : Begun
  pub reply : PlainReply
  pub stage : t.c.at.stage ≡ Waiting step
  pub attempt : IsAttempt w.begun t.c t.d step b
  pub settled : IsConnectionSettled (side_of w.server t.k) t.l.toward t.d
  pub brief : FitsReplyReader (wanted_of step) reply
  pub leads : LeadsOn b.run (side_of w.server t.k) t.c.at t.d step reply
  pub piece : HearsPiece t.c.at step reply (t.fed ++ take t.n t.l.back) (drop t.n t.l.back) t.progress t.at

-- something is on the way
pub some_way : (l : Connection) (n : ℕ) → 1 ≤ n → n ≤ length l.back → l.back ≡ [] → ⊥
some_way l n first within none = grind arith

stage_hearing : OneReply → (w : World) (t : Listens w) (stage : Stage) → t.c.at.stage ≡ stage → IsTrue (is_in_attempt stage)
    → IsConnectionToldAt stage w.begun (side_of w.server t.k) t.l t.c t.d → HasFedAt stage t.c.reader t.fed
    → FedAt stage t.c.at t.fed (take t.n t.l.back) t.progress t.at → IsHearing w t
stage_hearing g w t (ToSend step) stage inside (b, attempt, turn) had feeds = absurd (some_way t.l t.n t.some t.within turn.back)
stage_hearing g w t (Waiting step) stage inside (b, attempt, inl asked) had feeds = absurd (some_way t.l t.n t.some t.within asked.back)
stage_hearing g w t (Waiting step) stage inside (b, attempt, inr r) had feeds = elim r.reply [
  | inl none ↦ (
      let size : length (r.fed ++ t.l.back) ≡ 0 = ap length none in
      absurd (omega (arith, t.some, t.within, size, length-append r.fed t.l.back)))
  | inr (reply, is, brief, leads) ↦ record {
    step = step;
    b = b;
    reply = reply;
    stage = stage;
    attempt = attempt;
    settled = r.settled;
    brief = brief;
    leads = leads;
    piece = hearing g t.c.reader t.c.at t.at step reply r.fed t.fed t.l.back t.n t.progress brief is r.has had feeds;
  }
]
stage_hearing g w t other stage inside told had feeds = absurd cc

pub own_listens : (w : World) (t : Listens w) → IsOwned w → w.own ≡ Some t.k
own_listens w t owned = owned.only t.k (t.l, t.d, t.there, t.other, t.dump)

-- each time the client hears, it hears a reply
pub hearing_now : OneReply → (w : World) (t : Listens w) → IsOwned w → AreTold w → IsHearing w t
hearing_now g w t owned told =
    let own = own_listens w t owned in
    let a = (owned.own t.k own).1 in
    let inside = subst (λ (x : WorldClient). IsTrue (is_in_attempt x.at.stage)) (same_Some a.0 t.c (sym a.1 ∙ t.client)) a.2 in
    stage_hearing g w t t.c.at.stage refl inside ((told.each t.k t.l t.there).own t.d t.c t.dump own t.client) t.had t.feeds

-- it heard the whole reply, so it waits no more
whole_stage : (w : World) (t : Listens w) (h : IsHearing w t) (stage : Stage) → t.at.stage ≡ stage
    → HasFedAt stage t.reader (unanswered stage (t.fed ++ take t.n t.l.back)) → drop t.n t.l.back ≡ []
    → ReceivesAt t.c.at h.step (Reply h.reply) false t.progress t.at
    → IsConnectionToldAt stage w.begun (side_of w.server t.k) (record t.l { back = drop t.n t.l.back }) (caller t.c.number t.at t.reader) t.d
whole_stage w t h (ToSend next) at has none heard =
    let g = h.leads t.progress t.at next heard at in
    let other = unlike_close t.c.at t.at h.step next h.reply t.progress heard at in
    let attempt : IsAttempt w.begun (caller t.c.number t.at t.reader) t.d next h.b = (let a = h.attempt in grind (arith, length-append, take_at)) in
    (h.b, attempt, record { done = g.done; settled = h.settled; back = none; fed = has })
whole_stage w t h (Waiting other) at has none heard = (let was = heard_as t.c.at t.at _ false t.progress heard in absurd (grind arith))
whole_stage w t h stage at has none heard = tt

-- what comes of the bytes that it heard
hearing_told : (w : World) (t : Listens w) (h : IsHearing w t) → HearsPiece t.c.at h.step h.reply (t.fed ++ take t.n t.l.back) (drop t.n t.l.back) t.progress t.at
    → IsConnectionToldAt t.at.stage w.begun (side_of w.server t.k) (record t.l { back = drop t.n t.l.back }) (caller t.c.number t.at t.reader) t.d
hearing_told w t h (waits moved is text) =
    let at : t.at.stage ≡ Waiting h.step = ap (λ (s : Standing). s.stage) is ∙ h.stage in
    let attempt : IsAttempt w.begun (caller t.c.number t.at t.reader) t.d h.step h.b = (let a = h.attempt in grind arith) in
    subst (λ s. IsConnectionToldAt s w.begun (side_of w.server t.k) (record t.l { back = drop t.n t.l.back }) (caller t.c.number t.at t.reader) t.d) (sym at) (
      h.b,
      attempt,
      inr record {
        settled = h.settled;
        fed = t.fed ++ take t.n t.l.back;
        has = subst (λ s. HasFedAt s t.reader (unanswered s (t.fed ++ take t.n t.l.back))) at t.has;
        reply = inr (h.reply, sym text, h.brief, subst (λ s. LeadsOn h.b.run (side_of w.server t.k) s t.d h.step h.reply) (sym is) h.leads);
      },
    )
hearing_told w t h (whole spelled none heard) = whole_stage w t h t.at.stage refl t.has none heard

-- the client hears, and goes on
pub hears_told : OneReply → (w : World) (t : Listens w) (on : is_over t.progress ≡ false) → IsOwned w → AreTold w → AreTold (move.moved w (move.hears t on))
hears_told g w t on owned told =
    changed_told w _ t.k (λ x. record x { back = drop t.n x.back }) refl refl (λ j beside. refl)
    (λ j beside mine. absurd (beside (same_Some j t.k (sym mine ∙ own_listens w t owned))))
    (λ x here before. record {
      sent = before.sent;
      own = λ d y is_d mine now. (
          let same : t.l ≡ x = same_Some t.l x (sym t.there ∙ here) in
          let dump : t.d ≡ d = same_Some t.d d (sym t.dump ∙ ap (λ (z : Connection). z.dump) same ∙ is_d) in
          let h = hearing_now g w t owned told in
          let heard = hearing_told w t h h.piece in
          grind arith);
    }) told

-- no count more, or the close comes next
pub becomes_counts : (old new : Standing) (progress : Progress) → HeardAs old new false progress → (new.counts ≡ old.counts) ⊎ (new.stage ≡ ToSend Close)
becomes_counts old new progress given = grind arith

-- the client counted its volume, and goes on to the close
pub record HasNewCount (w : World) (t : Listens w) (h : IsHearing w t) : Type 0 where
  pub other : h.step ≢ Close
  pub goes : GoesTo h.b.run (side_of w.server t.k) t.c.at t.d t.at Close

piece_counts : (w : World) (t : Listens w) (h : IsHearing w t)
    → HearsPiece t.c.at h.step h.reply (t.fed ++ take t.n t.l.back) (drop t.n t.l.back) t.progress t.at → (t.at.counts ≡ t.c.at.counts) ⊎ HasNewCount w t h
piece_counts w t h (waits moves is text) = inl (ap (λ (s : Standing). s.counts) is)
piece_counts w t h (whole spelled none heard) = elim (becomes_counts t.c.at t.at t.progress (heard_as t.c.at t.at _ false t.progress heard)) [
  | inl same ↦ inl same
  | inr at ↦ inr record { other = unlike_close t.c.at t.at h.step Close h.reply t.progress heard at; goes = h.leads t.progress t.at Close heard at }
]

-- the count that is told then
abbrev pub new_count : (w : World) → Listens w → Count
new_count w t = counts_of w t.c.number t.k (count_to (checkpoint_of t.c.at.counts) (t.d.first + t.d.blocks))

pub counted_is : (w u : World) (t : Listens w) → u.counts ≡ w.counts ++ told_counts w t → (h : IsHearing w t) (x : Count) → Contains u.counts x
    → Contains w.counts x ⊎ (HasNewCount w t h × (x ≡ new_count w t))
counted_is w u t counts h x among = elim (piece_counts w t h h.piece) [
  | inl same ↦ (
      let none : drop (length t.c.at.counts) t.at.counts ≡ [] = ap (drop (length t.c.at.counts)) (same ∙ sym (append-nil t.c.at.counts)) ∙ drop_front t.c.at.counts [] in
      inl (subst (λ xs. Contains xs x) (counts ∙ ap (λ cs. w.counts ++ map (counts_of w t.c.number t.k) cs) none ∙ append-nil w.counts) among))
  | inr new ↦ (
      let last = count_to (checkpoint_of t.c.at.counts) (t.d.first + t.d.blocks) in
      let one = ap (drop (length t.c.at.counts)) new.goes.counts ∙ drop_front t.c.at.counts (last ∷ []) in
      let all = counts ∙ ap (λ cs. w.counts ++ map (counts_of w t.c.number t.k) cs) one in
      elim (Contains-push_cases w.counts (new_count w t) x (subst (λ xs. Contains xs x) all among)) [ inl before ↦ inl before | inr is ↦ inr (new, sym is) ])
]
