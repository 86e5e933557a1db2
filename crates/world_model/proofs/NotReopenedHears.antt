-- What keeps reels of counts spared, when the client hears.
use Rattle.world_model.proofs.Basics.{◌≡◌, ◌⊎◌, ◌≢◌, ℕ, suc, ◌+◌, ◌<◌, ◌≤◌, true, false, List, [], ◌∷◌, ◌++◌, append_assoc, take, drop, Option, Some, Contains, refl, sym, ap, subst, ◌∙◌, inl, inr, arith, append-nil, take-append-drop, same_Some}
use Rattle.world_model.proofs.Terms.{PlainRun, AreVolumes, checkpoint_after, VolumeCount, wanted_of, Reply, Standing, ReceivesAt, FedAt, IsAtStep, HasFedAt, unanswered, Step, Close, Stage, ToSend, Waiting, Progress, heard_as, AttemptFault, World, Connection, WorldClient, Count, connection_of, opening, without_peer, IsNotReopened, IsClientLawful, AreOpened, AreWritersLast, IsOwned, AreSingle, AreTold, HasOpenedSince, AreListedNow, AreNotReopened, caller}
use Rattle.world_model.proofs.Ground.{changed_is, OneReply, one_heard, brief_begins, Listens, told_counts, is_over}
use Rattle.world_model.proofs.SentTexts.{volumes_from}
use Rattle.world_model.proofs.ToldHears.{HearsPiece, waits, whole, unlike_close, IsHearing, hearing_now, own_listens, HasNewCount, new_count, counted_is, becomes_counts}
use Rattle.world_model.proofs.Moves as move
use Rattle.world_model.proofs.NotReopenedQuiet.{changed_dumps, quiet_spared}

-- the volumes of a list come before that of its checkpoint
not_before : (run : PlainRun) (volume first : ℕ) (counts : List VolumeCount) → AreVolumes run volume first counts
    → volume ≤ (checkpoint_after volume first counts).0
not_before run volume first [] v = omega arith
not_before run volume first (z ∷ counts) v =
    let on = not_before run (z.volume + 1) (z.first + z.count) counts (volumes_from run volume first z counts v) in
    grind arith

pub before_checkpoint : (run : PlainRun) (volume first : ℕ) (counts : List VolumeCount) (c : VolumeCount) → AreVolumes run volume first counts
    → Contains counts c → c.volume < (checkpoint_after volume first counts).0
before_checkpoint run volume first (z ∷ counts) c v (suc i, within, is) =
    before_checkpoint run (z.volume + 1) (z.first + z.count) counts c (volumes_from run volume first z counts v) (i, omega (arith, within), is)
before_checkpoint run volume first counts c v given = grind (arith, not_before)

-- Each list since the open of its own connection lacks the volume, so each session that opened the reel since is foreign.
new_unopened : (w : World) (t : Listens w) (h : IsHearing w t) → HasNewCount w t h → w.own ≡ Some t.k → AreVolumes t.c.at.run 1 0 t.c.at.counts → AreSingle w → AreListedNow w
    → (x : Count) → x ≡ new_count w t → IsNotReopened w x → (k : ℕ) → HasOpenedSince w x k → ⊥
new_unopened w t h new own volumes single listed x is (j, at, own_open) k (i, m, place, less, opened) =
    let conn : x.connection ≡ t.k = ap (λ (z : Count). z.connection) is in
    let number = ap (λ (z : Count). z.volume) is in
    let one = (single t.k t.l t.d t.there t.dump).one j i (opening x.connection x.reel) (opening x.connection x.reel) at place conn conn in
    let (d, has, run, list, lists, (c, among, volume, first)) = own_open m (opening k x.reel) (omega (arith, one, less)) opened refl in
    let same = listed t.k i m t.c h.step (opening x.connection x.reel) list own t.client (subst (λ s. IsAtStep s h.step) (sym h.stage) refl) new.other
    place conn (omega (arith, less)) lists in
    let before = before_checkpoint t.c.at.run 1 0 t.c.at.counts c volumes (subst (λ l. Contains l c) same among) in
    omega (arith, before, volume, number)

-- nothing more comes
stays_put : (stage : Stage) (old new : Standing) (fed : List ℕ) (progress : Progress) → ((step : Step) → stage ≡ Waiting step → ⊥)
    → FedAt stage old fed [] progress new → new ≡ old
stays_put stage old new fed progress never given = grind arith

-- what comes of all that is on the way was to come of it before
heard_past : (w : World) (t : Listens w) (h : IsHearing w t) (fed : List ℕ) (progress : Progress) (new : Standing)
    → HearsPiece t.c.at h.step h.reply (t.fed ++ take t.n t.l.back) (drop t.n t.l.back) t.progress t.at → HasFedAt t.at.stage t.reader fed
    → FedAt t.at.stage t.at fed (drop t.n t.l.back) progress new → (q : Progress) × FedAt t.c.at.stage t.c.at t.fed t.l.back q new
heard_past w t h fed progress new (waits moves is text) had feeds =
    let at : t.at.stage ≡ Waiting h.step = ap (λ (s : Standing). s.stage) is ∙ h.stage in
    let has : HasFedAt (Waiting h.step) t.reader (t.fed ++ take t.n t.l.back)
    = subst (λ s. HasFedAt s t.reader (unanswered s (t.fed ++ take t.n t.l.back))) at t.has in
    let its : HasFedAt (Waiting h.step) t.reader fed = subst (λ s. HasFedAt s t.reader fed) at had in
    let begins = brief_begins (wanted_of h.step) h.reply (t.fed ++ take t.n t.l.back) (drop t.n t.l.back) h.brief text in
    let same : t.fed ++ take t.n t.l.back ≡ fed = one_heard t.reader (wanted_of h.step) (t.fed ++ take t.n t.l.back) fed begins.0 has.unread its.unread in
    let bytes : fed ++ drop t.n t.l.back ≡ t.fed ++ t.l.back
    = grind (arith, append_assoc, take-append-drop) in
    let on : FedAt (Waiting h.step) t.c.at fed (drop t.n t.l.back) progress new
    = subst (λ z. FedAt (Waiting h.step) z fed (drop t.n t.l.back) progress new) is (subst (λ s. FedAt s t.at fed (drop t.n t.l.back) progress new) at feeds) in
    (progress, subst (λ s. FedAt s t.c.at t.fed t.l.back progress new) (sym h.stage) (grind arith))
heard_past w t h fed progress new (whole spelled none heard) had feeds =
    let put = stays_put t.at.stage t.at new fed progress (grind arith)
    (subst (λ way. FedAt t.at.stage t.at fed way progress new) none feeds) in
    let all : take t.n t.l.back ≡ t.l.back
    = sym (append-nil (take t.n t.l.back)) ∙ ap (λ l. take t.n t.l.back ++ l) (sym none) ∙ take-append-drop t.n t.l.back in grind arith

-- where it is at a step before the close it was so before, with the same counts
abbrev WasAtStep : (w : World) → Listens w → Type 0
WasAtStep w t = (step : Step) × IsAtStep t.c.at.stage step × (step ≢ Close) × (t.at.counts ≡ t.c.at.counts)

went_on : (w : World) (t : Listens w) (h : IsHearing w t) (stage : Stage) (step : Step) → t.at.stage ≡ stage → IsAtStep stage step → step ≢ Close
    → ReceivesAt t.c.at h.step (Reply h.reply) false t.progress t.at → WasAtStep w t
went_on w t h (ToSend next) step stage at other heard =
    let counts : t.at.counts ≡ t.c.at.counts = elim (becomes_counts t.c.at t.at t.progress (heard_as t.c.at t.at _ false t.progress heard)) [
      | inl same ↦ same
      | inr close ↦ grind arith
    ] in
    (h.step, subst (λ s. IsAtStep s h.step) (sym h.stage) refl, unlike_close t.c.at t.at h.step next h.reply t.progress heard stage, counts)
went_on w t h (Waiting next) step stage at other heard = grind arith
went_on w t h rest step stage at other heard = absurd at

was_at_step : (w : World) (t : Listens w) (h : IsHearing w t) (step : Step)
    → HearsPiece t.c.at h.step h.reply (t.fed ++ take t.n t.l.back) (drop t.n t.l.back) t.progress t.at
    → IsAtStep t.at.stage step → step ≢ Close → WasAtStep w t
was_at_step w t h step (waits moves is text) at other = grind arith
was_at_step w t h step (whole spelled none heard) at other = went_on w t h t.at.stage step refl at other heard

-- a count that is there then was there, or nobody opened its reel since
heard_counts : (w u : World) (t : Listens w) (h : IsHearing w t) → u.counts ≡ w.counts ++ told_counts w t → w.own ≡ Some t.k → IsClientLawful w → AreSingle w
    → AreListedNow w
    → (x : Count) → Contains u.counts x → IsNotReopened w x → Contains w.counts x ⊎ ((k : ℕ) → HasOpenedSince w x k → ⊥)
heard_counts w u t h counts own lawful single listed x counted not_reopened = elim (counted_is w u t counts h x counted) [
  | inl before ↦ inl before
  | inr (new, is) ↦ inr (new_unopened w t h new own (lawful t.c t.client).counts single listed x is not_reopened)
]

-- it goes on
pub heard_not_reopened : OneReply → (w : World) (t : Listens w) (on : is_over t.progress ≡ false) → IsOwned w → IsClientLawful w → AreTold w → AreSingle w → AreOpened w
    → AreWritersLast w → AreNotReopened w → AreNotReopened (move.moved w (move.hears t on))
heard_not_reopened g w t on owned lawful told single opened writers p =
    quiet_spared w u record { opens = refl; lists = refl; writings = refl }
    (changed_dumps (λ l. record l { back = drop t.n l.back }) (λ x. refl) w u t.k refl) opened writers p
    (heard_counts w u t h refl own lawful single p.listed)
    (λ k i m c step o list mine there at other opens its from lists. (
    let is : caller t.c.number t.at t.reader ≡ c = same_Some _ c there in
    let (was, there, before, counts) = was_at_step w t h step h.piece (subst (λ (z : WorldClient). IsAtStep z.at.stage step) (sym is) at) other in
    p.listed k i m t.c was o list mine t.client there before opens its from lists ∙ sym counts ∙ ap (λ (z : WorldClient). z.at.counts) is))
    (λ k l c fed progress new x mine at there had feeds goes counted not_reopened since. (
    let is : caller t.c.number t.at t.reader ≡ c = same_Some _ c there in
    let its = heard_past w t h fed progress new h.piece (subst (λ (z : WorldClient). HasFedAt z.at.stage z.reader fed) (sym is) had)
    (subst (λ way. FedAt t.at.stage t.at fed way progress new) (back_is k l mine at)
    (subst (λ (z : WorldClient). FedAt z.at.stage z.at fed l.back progress new) (sym is) feeds)) in
    p.looked t.k t.l t.c t.fed its.0 new x own t.there t.client t.had its.1 goes counted not_reopened
    (subst (HasOpenedSince w x) (same_Some k t.k (sym mine ∙ own)) since)))
  where
    u : World
    u = move.moved w (move.hears t on)

    h : IsHearing w t
    h = hearing_now g w t owned told

    own : w.own ≡ Some t.k
    own = own_listens w t owned

    back_is : (k : ℕ) (l : Connection) → w.own ≡ Some k → connection_of u k ≡ Some l → l.back ≡ drop t.n t.l.back
    back_is k l mine at = elim (changed_is (λ x. record x { back = drop t.n x.back }) w.connections t.k k l at) [
      | inl (same, (x, was, new)) ↦ ap (λ (y : Connection). y.back) new ∙ ap (λ (y : Connection). drop t.n y.back) (same_Some x t.l (sym was ∙ t.there))
      | inr (other, on) ↦ absurd (other (same_Some k t.k (sym mine ∙ own)))
    ]

-- its attempt is over then
pub heard_last_not_reopened : OneReply → (w : World) (t : Listens w) (failure : Option (ℕ × AttemptFault)) (over : is_over t.progress ≡ true) → IsOwned w
    → IsClientLawful w → AreTold w → AreSingle w → AreOpened w → AreWritersLast w → AreNotReopened w → AreNotReopened (move.moved w (move.hears_last t failure over))
heard_last_not_reopened g w t failure over owned lawful told single opened writers p =
    let u = move.moved w (move.hears_last t failure over) in
    quiet_spared w u record { opens = refl; lists = refl; writings = refl } (changed_dumps without_peer (λ x. refl) w u t.k refl) opened writers p
    (heard_counts w u t (hearing_now g w t owned told) refl (own_listens w t owned) lawful single p.listed)
    (λ k i m c step o list mine there at other opens its from lists. absurd cc)
    (λ k l c fed progress new x mine at there had feeds goes counted not_reopened since. absurd cc)
