-- The statement `AreNotReopened` stays true when the server carries out a request.
-- The client goes on past the look only where the reel is that of no spared count, also when the look is answered.
use Rattle.world_model.proofs.Basics.{◌≡◌, ◌⊎◌, ℕ, ◌+◌, ◌<◌, ◌≤◌, List, ◌++◌, length, Option, Some, Contains, refl, sym, ap, subst, ◌∙◌, inl, inr, arith, option_to_list, option_map, append-nil, same_Some, IsTrue, false, []}
use Rattle.world_model.proofs.Terms.{Opening, VolumeCount, Step, World, Connection, AttemptState, Begun, Count, Writing, numbered, HasDump, opening, opened_reel, list_in, reel_written, noted, IsNotReopened, AreSingle, EachCountHasAttempt, request_in, AreTold, HasOpenedSince, AreLateWriters, AreStopped, AreListedNow, SpellsReply, reply_text, DataUpTo, ServerConnection, session_view, PlainRun, label_bytes, wanted_of, Reply, Standing, ReceivesAt, FedAt, IsAtStep, HasFedAt, Operation, Look, RewindAgain, Stage, ToSend, Waiting, Progress, WorldClient, side_of, connection_of, sent_on, answered, IsClientLawful, is_in_attempt, IsOwned, IsSessionBefore, IsAttempt, IsConnectionToldAt, HasLooked}
use Rattle.world_model.proofs.Ground.{place_of, pushed_is, numbered_more, numbered_within, numbered_there, numbered_first, changed_is, steps_len, before_length, OneReading, DroppedWrites, OneReply, one_heard, noted_same, nothing_there, Turn, turned, shown_brief, look_online}
use Rattle.world_model.proofs.LabelledSingle.{asked_step, served_dump, IsServed, served_step, was_placed_new, open_step, carried_more}
use Rattle.world_model.proofs.Opened.{writing_is}
use Rattle.world_model.proofs.NotReopenedQuiet.{GoesBack, not_reopened_back}
use Rattle.world_model.proofs.NotReopenedAlone.{few_carried}
use Rattle.world_model.proofs.NotReopenedLooks.{Grounds, look_finds}
use Rattle.world_model.proofs.NotReopenedPast.{look_past, reply_past, RepliesPast}

list_is : (lists : List (List VolumeCount)) (now : List VolumeCount) (opened : Option (List ℕ)) (m : ℕ) (list : List VolumeCount)
    → numbered (lists ++ option_to_list (option_map (λ reel. now) opened)) m ≡ Some list → (numbered lists m ≡ Some list) ⊎ (list ≡ now)
list_is lists now opened m list at = grind (arith, append-nil, pushed_is)

-- one that was there, in a list that goes on
at_front : {X : Type 0} (xs more : List X) (i : ℕ) (y : X) → i ≤ length xs → numbered (xs ++ more) i ≡ Some y → numbered xs i ≡ Some y
at_front xs more i y within at =
    let z = numbered_there xs i (numbered_first (xs ++ more) i y at) within in
    z.1 ∙ ap Some (same_Some z.0 y (sym (numbered_more xs more i z.0 z.1) ∙ at))

-- the attempt was there, of the same run, with as many requests sent and no more carried out
served_attempt : (w : World) (v : Turn w) (k : ℕ) (d : AttemptState) → HasDump (turned w v) k d
    → (e : AttemptState) × HasDump w k e × (e.run ≡ d.run) × (e.sent ≡ d.sent) × (e.carried ≤ d.carried)
served_attempt w v k d (l, at, dump) = elim (served_dump w v k l d at dump) [
  | inl (same, (x, e, was, its, new)) ↦ (
      let more : e.carried ≤ (noted v.request v.reply e).carried = grind arith in (
        e,
        (x, ap (numbered w.connections) same ∙ was, its),
        sym (ap (λ (y : AttemptState). y.run) new ∙ (noted_same e v.request v.reply).run),
        sym (ap (λ (y : AttemptState). y.sent) new ∙ (noted_same e v.request v.reply).sent),
        subst (λ (y : AttemptState). e.carried ≤ y.carried) (sym new) more,
      ))
  | inr (other, was) ↦ (d, (l, was, dump), refl, refl, omega arith)
]

served_back : (w : World) (v : Turn w) → length w.lists ≡ length w.opens → GoesBack w (turned w v)
served_back w v paired = record {
  dumps = λ k d has within. (let (e, had, run, sent, more) = served_attempt w v k d has in (e, had, run));
  opens = λ m o at. numbered_more w.opens _ m o at;
  lists = λ m o list there at. at_front w.lists _ m list (let within = numbered_within w.opens m o there in omega (arith, within, paired)) at;
}

-- the place of a count's own opening is that of before
own_place : (w : World) (v : Turn w) → EachCountHasAttempt w → EachCountHasAttempt (turned w v) → AreSingle (turned w v) → (x : Count) → Contains w.counts x
    → (i : ℕ) → numbered (turned w v).opens i ≡ Some (opening x.connection x.reel) → numbered w.opens i ≡ Some (opening x.connection x.reel)
own_place w v earned after single x counted i at =
    let j = place_of w.opens (opening x.connection x.reel) (earned x counted).3.opened in
    let e = after x counted in
    let same = (single x.connection e.0 e.1 e.3.there e.3.dump).one i j.0 (opening x.connection x.reel) (opening x.connection x.reel) at
    (numbered_more w.opens _ j.0 (opening x.connection x.reel) j.1) refl refl in
    ap (numbered w.opens) same ∙ j.1

-- the request opens a reel for writing
abbrev pub OpensNow : (w : World) → Turn w → Type 0
OpensNow w v = (reel : List ℕ) × (opened_reel v.request v.library v.session ≡ Some reel)

-- of a count that was there: its reel was not reopened before, and who opened it since had done so, or opens it now
served_count : (w : World) (v : Turn w) → Grounds w → EachCountHasAttempt (turned w v) → AreSingle (turned w v) → (x : Count) → Contains w.counts x
    → IsNotReopened (turned w v) x
    → IsNotReopened w x × ((k : ℕ) → HasOpenedSince (turned w v) x k → HasOpenedSince w x k ⊎ ((k ≡ v.k) × OpensNow w v))
served_count w v a earned single x counted not_reopened =
    let own = own_place w v a.earned earned single x counted in
    let before = not_reopened_back w (turned w v) (served_back w v a.not_reopened.paired) a.opened x not_reopened (own not_reopened.0 not_reopened.1) in (
      before,
      λ k (i, m, place, less, opened). elim (was_placed_new w v m (opening k x.reel) opened) [
        | inl was ↦ inl (i, m, own i place, less, was)
        | inr (last, (reel, is, new)) ↦ inr (ap (λ (o : Opening). o.connection) new, (reel, is))
      ],
    )

pub served_late : OneReading → DroppedWrites → (w : World) (v : Turn w) → AreTold w → AreLateWriters w → AreLateWriters (turned w v)
served_late g h w v told late y d among has =
    let (e, (x, was, its), run, sent, more) = served_attempt w v y.connection d has in
    elim (writing_is w.writings v.k (length w.opens) (reel_written v.request v.library v.session) y among) [
      | inl before ↦ omega (arith, late y e before (x, was, its), more)
      | inr (reel, is, new) ↦
          let p = served_step g h w v told x e (ap (numbered w.connections) (sym (ap (λ (z : Writing). z.connection) new)) ∙ was) its in
          let asks : reel_written (request_in p.b e p.step) v.library v.session ≡ Some reel = subst (λ r. reel_written r v.library v.session ≡ Some reel) p.asks is in
          let many : 3 < steps_len p.b.run e.first (e.first + e.blocks) p.step = grind arith in
          omega (arith, many, p.done.carried ∙ before_length p.b.run e.first (e.first + e.blocks) p.step, more)
    ]

pub served_stopped : OneReading → DroppedWrites → (w : World) (v : Turn w) → Grounds w → EachCountHasAttempt (turned w v) → AreSingle (turned w v)
    → AreStopped (turned w v)
served_stopped g h w v a earned single x k d counted not_reopened since has =
    let (e, (y, was, its), run, sent, more) = served_attempt w v k d has in
    let (before, was_since) = served_count w v a earned single x counted not_reopened in
    elim (was_since k since) [
      | inl earlier ↦ omega (arith, a.not_reopened.stopped x k e counted before earlier (y, was, its), sent)
      | inr (here, (reel, is)) ↦
          let p = served_step g h w v a.told y e (ap (numbered w.connections) (sym here) ∙ was) its in
          let first = open_step p.b e p.step v.library v.session reel (subst (λ r. opened_reel r v.library v.session ≡ Some reel) p.asks is) in
          let none = p.done.carried ∙ before_length p.b.run e.first (e.first + e.blocks) p.step ∙ ap (steps_len p.b.run e.first (e.first + e.blocks)) first in
          omega (arith, none, (few_carried w k e a.told (y, was, its)).1, sent)
    ]

pub served_listed : (w : World) (v : Turn w) → length w.lists ≡ length w.opens → AreListedNow w → AreListedNow (turned w v)
served_listed w v paired listed k i m c step o list own there at other opens mine from lists =
    elim (list_is w.lists (list_in w.caller) (opened_reel v.request v.library v.session) m list lists) [
      | inl before ↦ (
          let within = numbered_within w.lists m list before in
          listed k i m c step o list own there at other (at_front w.opens _ i o (omega (arith, within, from, paired)) opens) mine from before)
      | inr new ↦ new ∙ ap list_in there
    ]

-- of the first requests the third is the look
look_is : (run : PlainRun) (d : AttemptState) (step : Step) (n : ℕ) → d.carried ≡ steps_len run d.first (d.first + d.blocks) step → n ≡ d.carried + 1 → n ≡ 3
    → step ≡ Look
look_is run d step n carried more three = grind arith

-- The client's own session is served, and after it what is on the way leads on past the look; the reel is that of a count.
module _ (h : DroppedWrites) (g : OneReply) (w : World) (v : Turn w) (c : WorldClient) (l m : Connection) (d : AttemptState) (new : Standing) (x : Count) (k : Grounds w)
    (lawful : IsClientLawful w) (own : w.own ≡ Some v.k) (there : w.caller ≡ Some c) (at : connection_of w v.k ≡ Some l) (dump : l.dump ≡ Some d)
    (served : IsServed w v l d)
    (back : m.back ≡ sent_on l.cut l.back (reply_text v.reply)) (goes : new.stage ≡ ToSend (Operation RewindAgain)) (counted : Contains w.counts x)
    (not_reopened : IsNotReopened w x) where
  -- the request was the look, for the client and for the server, and what the client heard is what the server answered: the label of a volume of its own
  answered_past : (step : Step) (b e : Begun) (o : Option ServerConnection) (progress : Progress) → c.at.stage ≡ Waiting step → IsAttempt w.begun c d step b
      → d.carried ≡ steps_len b.run d.first (d.first + d.blocks) step → l.back ≡ []
      → RepliesPast e.run o m c (noted v.request v.reply d) step (Operation RewindAgain) progress new
      → HasOpenedSince w x v.k ⊎ ((v.k ≡ v.k) × OpensNow w v) → ⊥
  answered_past step b e o progress stage attempt carried empty past (inr (same, (reel, opened))) = grind (arith, open_step, look_is, before_length, carried_more)
  answered_past Look b e o progress stage attempt carried empty past (inl since) =
      let is = look_is served.b.run d served.step _ (served.done.carried ∙ before_length served.b.run d.first (d.first + d.blocks) served.step)
      (carried_more d v.request v.reply served.few) past.goes.done.carried in
      let on = subst (λ s. IsSessionBefore s v.s.session) is (served.done.stands v.s refl) in
      let shown = look_online v.trouble w.server.holders (session_view w.server.library v.s.session) v.reply (session_view v.library v.session) on.1.0 on.0 on.1.1
      (asked_step w v _ (served.asks ∙ ap (request_in served.b d) is)) in
      let way : m.back ≡ sent_on l.cut [] (reply_text v.reply) = back ∙ ap (λ way. sent_on l.cut way (reply_text v.reply)) empty in
      let text : reply_text v.reply ≡ reply_text past.reply = grind arith in
      let same : v.reply ≡ past.reply = (g (DataUpTo label_bytes) (reply_text v.reply) [] v.reply past.reply (shown_brief v.reply shown.0).spelled
      (subst (λ t. SpellsReply t past.reply (DataUpTo label_bytes)) (sym text ∙ sym (append-nil (reply_text v.reply))) past.brief.spelled)).1 in
      let none = look_past c.at new v.reply progress (subst (λ q. ReceivesAt c.at Look (Reply q) false progress new) (sym same) past.heard) goes in
      let found = look_finds w v c x k l d b at dump served is own there (subst (λ s. IsAtStep s Look) (sym stage) refl)
      attempt (lawful c there) counted not_reopened since in
      grind arith
  answered_past step b e o progress stage attempt carried empty past (inl since) = grind (arith, look_is, carried_more)

  -- at the stage where the client stands
  stage_past : (stage : Stage) (begun : List Begun) (o : Option ServerConnection) (fed : List ℕ) (progress : Progress)
      → HasOpenedSince w x v.k ⊎ ((v.k ≡ v.k) × OpensNow w v)
      → c.at.stage ≡ stage → IsTrue (is_in_attempt stage) → IsConnectionToldAt stage w.begun (Some v.s) l c d
      → IsConnectionToldAt stage begun o m c (noted v.request v.reply d)
      → HasFedAt stage c.reader fed → FedAt stage c.at fed m.back progress new → ⊥
  stage_past (ToSend step) begun o fed progress since stage inside (b, attempt, turn) told had feeds = grind (arith, nothing_there)
  stage_past (Waiting step) begun o fed progress since stage inside (b, attempt, inr replied) told had feeds = grind (arith, nothing_there)
  stage_past (Waiting step) begun o fed progress since stage inside (b, attempt, inl asked) (e, same, inl again) had feeds = grind (arith, carried_more, noted_same)
  stage_past (Waiting step) begun o fed progress since stage inside (b, attempt, inl asked) (e, same, inr replied) had feeds =
      let none : [] ≡ fed = one_heard c.reader (wanted_of step) [] fed (inr tt) asked.fed.unread had.unread in
      answered_past step b e o progress stage attempt (asked.pending.done.carried ∙ before_length b.run d.first (d.first + d.blocks) step) asked.back
      (reply_past g e o m c (noted v.request v.reply d) step (Operation RewindAgain) progress new stage replied replied.reply asked.fed
      (subst (λ f. FedAt (Waiting step) c.at f m.back progress new) (sym none) feeds) goes) since
  stage_past other begun o fed progress since stage inside told again had feeds = absurd cc

pub served_looked : OneReading → DroppedWrites → OneReply → (w : World) (v : Turn w) → Grounds w → IsOwned w → IsClientLawful w → AreTold (turned w v)
    → EachCountHasAttempt (turned w v) → AreSingle (turned w v) → HasLooked (turned w v)
served_looked r h g w v a owned lawful told earned single k l c fed progress new x own at there had feeds goes counted not_reopened since =
    let (before, was_since) = served_count w v a earned single x counted not_reopened in
    elim (changed_is (answered v.request v.reply) w.connections v.k k l at) [
      | inl (same, (y, was, is)) ↦
          let here : w.own ≡ Some v.k = own ∙ ap Some same in
          let ((z, d, linked, live, attempt), (q, client, inside)) = owned.own v.k here in
          let dump : y.dump ≡ Some d = ap (λ (n : Connection). n.dump) (same_Some y z (sym was ∙ linked)) ∙ attempt in
          let noted_dump = ap (λ (n : Connection). n.dump) is ∙ ap (option_map (noted v.request v.reply)) dump in
          let told_before = subst (λ o. IsConnectionToldAt c.at.stage w.begun o y c d) v.live ((a.told.each v.k y was).own d c dump here there) in
          let told_after = (told.each v.k l (ap (connection_of (turned w v)) (sym same) ∙ at)).own (noted v.request v.reply d) c noted_dump here there in
          stage_past h g w v c y l d new x a lawful here there was dump (served_step r h w v a.told y d was dump)
          (ap (λ (n : Connection). n.back) is) goes counted before c.at.stage w.begun
          (side_of (turned w v).server v.k) fed progress (was_since v.k (subst (HasOpenedSince (turned w v) x) same since)) refl
          (subst (λ (n : WorldClient). IsTrue (is_in_attempt n.at.stage)) (same_Some q c (sym client ∙ there)) inside) told_before told_after had feeds
      | inr (other, on) ↦ elim (was_since k since) [
        | inl earlier ↦ a.not_reopened.looked k l c fed progress new x own on there had feeds goes counted before earlier
        | inr (here, opened) ↦ other here
      ]
    ]
