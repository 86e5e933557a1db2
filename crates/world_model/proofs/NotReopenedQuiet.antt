-- A count whose reel is not reopened after an event was so before the event.
-- What keeps reels of counts spared, after an event that neither sends, nor hears, nor carries out a request.
-- The statement `AreNotReopened` stays true when the client sends its next request.
use Rattle.world_model.proofs.Basics.{◌≡◌, ℕ, ◌<◌, ◌≤◌, List, [], ◌∷◌, ◌++◌, length, Some, Contains, refl, sym, ap, ◌∙◌, inl, inr, arith, ◌+◌, None, subst, same_Some, ◌≢◌, ◌⊎◌}
use Rattle.world_model.proofs.Terms.{VolumeCount, World, Connection, AttemptState, Count, Opening, Writing, numbered, changed, opening, HasDump, IsNotReopened, AreOpened, AreWritersLast, HasOpenedSince, FedAt, WorldClient, connection_of, new_connection, IsOwned, looked_requests, AreListedNow, AreNotReopened, client_connected, fresh, wanted_of, Standing, standing, IsAtStep, HasFedAt, Operation, RewindAgain, ToSend, Waiting, Progress, Begun, side_of, noted_sent, IsAttempt, IsItsTurn, IsConnectionToldAt, AreTold, caller, next_text, sent_connection}
use Rattle.world_model.proofs.Ground.{among_at, changed_is, pushed_is, numbered_within, one_heard, mapped, Sender, asks, moved}
use Rattle.world_model.proofs.Opened.{front_in}
use Rattle.world_model.proofs.NotReopenedPast.{nothing_past}
use Rattle.dump_client.specs.declared.stage.Progress.TheVariants as came

-- Openings stay at their places, with their lists, and an attempt that was there is of its run still.
pub record GoesBack (w u : World) : Type 0 where
  pub dumps : (k : ℕ) (d : AttemptState) → HasDump u k d → k ≤ length w.connections → (e : AttemptState) × HasDump w k e × (e.run ≡ d.run)
  pub opens : (m : ℕ) (o : Opening) → numbered w.opens m ≡ Some o → numbered u.opens m ≡ Some o
  pub lists : (m : ℕ) (o : Opening) (list : List VolumeCount) → numbered w.opens m ≡ Some o → numbered u.lists m ≡ Some list → numbered w.lists m ≡ Some list

-- so the openings since that were there before were not foreign then
pub not_reopened_back : (w u : World) → GoesBack w u → AreOpened w → (x : Count) (not_reopened : IsNotReopened u x)
    → numbered w.opens not_reopened.0 ≡ Some (opening x.connection x.reel) → IsNotReopened w x
not_reopened_back w u b opened x (i, at, own_open) was = (
  i,
  was,
  λ m o less there its. (
      let (d, has, run, list, listed, counts) = own_open m o less (b.opens m o there) its in
      let e = b.dumps o.connection d has (opened.there o (among_at w.opens m o there)).1 in
      (e.0, e.1, e.2 ∙ run, list, b.lists m o list there listed, counts)),
)

-- each attempt that was there is as it was
abbrev pub DumpsStay : World → World → Type 0
DumpsStay w u = (k : ℕ) (d : AttemptState) → HasDump u k d → k ≤ length w.connections → HasDump w k d

pub changed_dumps : (f : Connection → Connection) → ((x : Connection) → (f x).dump ≡ x.dump) → (w u : World) (j : ℕ) → u.connections ≡ changed f w.connections j → DumpsStay w u
changed_dumps f keeps w u j connections k d given within = grind (arith, changed_is)

pub joined_dumps : (w u : World) (new : Connection) → u.connections ≡ w.connections ++ new ∷ [] → DumpsStay w u
joined_dumps w u new connections k d given within = grind (arith, pushed_is)

-- the same openings, with the same lists
pub record SameOpens (w u : World) : Type 0 where
  pub opens : u.opens ≡ w.opens
  pub lists : u.lists ≡ w.lists
  pub writings : u.writings ≡ w.writings

-- whoever opened a reel since is there, and whoever wrote
pub since_there : (w : World) (x : Count) (k : ℕ) → AreOpened w → HasOpenedSince w x k → k ≤ length w.connections
since_there w x k opened (i, m, at, less, since) = (opened.there (opening k x.reel) (among_at w.opens m (opening k x.reel) since)).1

pub writer_there : (w : World) (y : Writing) → AreOpened w → AreWritersLast w → Contains w.writings y → y.connection ≤ length w.connections
writer_there w y opened writers among =
    let m = (writers y among).1 in
    (opened.there (opening y.connection y.reel) (grind (arith, among_at, front_in))).1

-- the attempts that were there are of their runs still, and as many of their requests were carried out
abbrev pub Carries : World → World → Type 0
Carries w u = (k : ℕ) (d : AttemptState) → HasDump u k d → k ≤ length w.connections → (e : AttemptState) × HasDump w k e × (e.run ≡ d.run) × (e.carried ≡ d.carried)

-- the client does not go on past the look at the reel of a count that was there
abbrev pub Looks : World → World → Type 0
Looks w u =
    (k : ℕ) (l : Connection) (c : WorldClient) (fed : List ℕ) (progress : Progress) (new : Standing)
    (x : Count) → u.own ≡ Some k → connection_of u k ≡ Some l → u.caller ≡ Some c
    → HasFedAt c.at.stage c.reader fed → FedAt c.at.stage c.at fed l.back progress new → new.stage ≡ ToSend (Operation RewindAgain) → Contains w.counts x
    → IsNotReopened w x
    → HasOpenedSince w x k → ⊥

-- Openings and writings stay. What was sent, listed and heard is asked of counts that were there alone, since nobody opened the reel of another after it.
pub spared : (w u : World) → SameOpens w u → Carries w u → AreOpened w → AreWritersLast w → AreNotReopened w
    → ((x : Count) → Contains u.counts x → IsNotReopened w x → Contains w.counts x ⊎ ((k : ℕ) → HasOpenedSince w x k → ⊥))
    → ((x : Count) (k : ℕ) (d : AttemptState) → Contains w.counts x → IsNotReopened w x → HasOpenedSince w x k → HasDump u k d → d.sent ≤ looked_requests)
    → AreListedNow u → Looks w u
    → AreNotReopened u
spared w u s carries opened writers p counts stopped listed looked = record {
  paired = ap length s.lists ∙ p.paired ∙ sym (ap length s.opens);
  late = λ y d among has. (
      let before = subst (λ ys. Contains ys y) s.writings among in
      let (e, was, run, carried) = carries y.connection d has (writer_there w y opened writers before) in
      subst (λ n. looked_requests < n) carried (p.late y e before was));
  stopped = λ x k d counted not_reopened since has. elim (counts x counted (back x not_reopened)) [
    | inl before ↦ stopped x k d before (back x not_reopened) (since_was x k since) has
    | inr none ↦ absurd (none k (since_was x k since))
  ];
  listed = listed;
  looked = λ k l c fed progress new x own at there had feeds goes counted not_reopened since. elim (counts x counted (back x not_reopened)) [
    | inl before ↦ looked k l c fed progress new x own at there had feeds goes before (back x not_reopened) (since_was x k since)
    | inr none ↦ none k (since_was x k since)
  ];
}
  where
    back : (x : Count) → IsNotReopened u x → IsNotReopened w x
    back x not_reopened = not_reopened_back w u record {
      dumps = λ k d has within. (let (e, was, run, carried) = carries k d has within in (e, was, run));
      opens = λ m o at. ap (λ os. numbered os m) s.opens ∙ at;
      lists = λ m o list there at. ap (λ ls. numbered ls m) (sym s.lists) ∙ at;
    } opened x not_reopened (ap (λ os. numbered os not_reopened.0) (sym s.opens) ∙ not_reopened.1)

    since_was : (x : Count) (k : ℕ) → HasOpenedSince u x k → HasOpenedSince w x k
    since_was x k given = grind arith

-- the same where nothing was sent
pub quiet_spared : (w u : World) → SameOpens w u → DumpsStay w u → AreOpened w → AreWritersLast w → AreNotReopened w
    → ((x : Count) → Contains u.counts x → IsNotReopened w x → Contains w.counts x ⊎ ((k : ℕ) → HasOpenedSince w x k → ⊥)) → AreListedNow u → Looks w u → AreNotReopened u
quiet_spared w u s stay opened writers p counts listed looked =
    spared w u s (λ k d has within. (d, stay k d has within, refl, refl)) opened writers p counts
    (λ x k d counted not_reopened since has. p.stopped x k d counted not_reopened since (stay k d has (since_there w x k opened since))) listed looked

-- no attempt is under way
pub idle_not_reopened : (w u : World) → SameOpens w u → DumpsStay w u → AreOpened w → AreWritersLast w → u.counts ≡ w.counts → ((k : ℕ) → u.own ≡ Some k → ⊥)
    → AreNotReopened w → AreNotReopened u
idle_not_reopened w u s stay opened writers counts none p =
    quiet_spared w u s stay opened writers p (λ x counted not_reopened. inl (subst (λ xs. Contains xs x) counts counted))
    (λ k i m c step o list own there at other opens mine from lists. absurd (none k own))
    (λ k l c fed progress new x own on there had feeds goes counted not_reopened since. none k own)

-- a connection of the client's has the same on the way back
abbrev pub BacksStay : World → World → Type 0
BacksStay w u = (k : ℕ) (l : Connection) → w.own ≡ Some k → connection_of u k ≡ Some l → (x : Connection) × (connection_of w k ≡ Some x) × (l.back ≡ x.back)

-- the attempt that is under way is as it was
pub same_not_reopened : (w u : World) → SameOpens w u → DumpsStay w u → BacksStay w u → AreOpened w → AreWritersLast w → u.counts ≡ w.counts → u.own ≡ w.own
    → u.caller ≡ w.caller → AreNotReopened w → AreNotReopened u
same_not_reopened w u s stay backs opened writers counts own caller p =
    quiet_spared w u s stay opened writers p (λ x counted not_reopened. inl (subst (λ xs. Contains xs x) counts counted)) (grind arith)
    (λ k l c fed progress new x mine on there had feeds goes counted not_reopened since. (
    let b = backs k l (sym own ∙ mine) on in
    p.looked k b.0 c fed progress new x (sym own ∙ mine) b.1 (sym caller ∙ there) had
    (subst (λ way. FedAt c.at.stage c.at fed way progress new) b.2 feeds) goes counted not_reopened since))

pub changed_backs : (f : Connection → Connection) → ((x : Connection) → (f x).back ≡ x.back) → (w u : World) (j : ℕ) → u.connections ≡ changed f w.connections j → BacksStay w u
changed_backs f keeps w u j connections k l own at = grind (arith, changed_is)

pub joined_backs : (w u : World) (new : Connection) → IsOwned w → u.connections ≡ w.connections ++ new ∷ [] → BacksStay w u
joined_backs w u new owned connections k l own at = grind (arith, pushed_is, numbered_within)

-- what a stranger's connection has on the way is no client's
pub strangers_backs : (f : Connection → Connection) (w u : World) (j : ℕ) (y : Connection) → IsOwned w → u.connections ≡ changed f w.connections j → connection_of w j ≡ Some y → y.dump ≡ None
    → BacksStay w u
strangers_backs f w u j y owned connections here stranger k l own at = grind (arith, changed_is, same_Some)

-- an attempt starts on a connection that opened nothing
pub connected_not_reopened : (w : World) (c : WorldClient) → AreOpened w → AreWritersLast w → AreNotReopened w → AreNotReopened (client_connected w c)
connected_not_reopened w c opened writers p =
    quiet_spared w (client_connected w c) record { opens = refl; lists = refl; writings = refl }
    (joined_dumps w (client_connected w c) (new_connection (Some (fresh c))) refl) opened writers p
    (λ x counted not_reopened. inl counted)
    (λ k i m d step o list own there at other opens mine from lists. (
    let new : length w.connections + 1 ≡ k = same_Some _ k own in
    absurd (omega (arith, (opened.there o (among_at w.opens i o opens)).1, new, mine)))) (grind (arith, same_Some, since_there))

-- the attempt that sends, or another's
sent_dump : (w : World) (t : Sender w) (k : ℕ) (d : AttemptState) → HasDump (moved w (asks t)) k d
    → ((k ≡ t.k) × ((e : AttemptState) × HasDump w t.k e × (d ≡ noted_sent e))) ⊎ HasDump w k d
sent_dump w t k d given = grind (arith, changed_is, mapped)

-- it is the client's turn, and it has heard nothing
its_turn : (w : World) (t : Sender w) (x : Connection) (e : AttemptState) → AreTold w → connection_of w t.k ≡ Some x → x.dump ≡ Some e
    → (b : Begun) × IsAttempt w.begun t.c e t.step b × IsItsTurn b (side_of w.server t.k) x t.c e t.step
its_turn w t x e told at dump =
    subst (λ s. IsConnectionToldAt s w.begun (side_of w.server t.k) x t.c e) t.stage ((told.each t.k x at).own e t.c dump t.own t.there)

-- where the reel is that of a count it is stopped before the second rewind
stopped_here : (w : World) (t : Sender w) (x : Count) (e : AttemptState) → AreTold w → AreNotReopened w → HasDump w t.k e → Contains w.counts x → IsNotReopened w x
    → HasOpenedSince w x t.k → (noted_sent e).sent ≤ looked_requests
stopped_here w t x e told p (l, at, dump) counted not_reopened since =
    let (b, attempt, turn) = its_turn w t l e told at dump in
    let few = p.stopped x t.k e counted not_reopened since (l, at, dump) in
    let other : t.step ≢ Operation RewindAgain
    = λ is. p.looked t.k l t.c [] came.Send t.c.at x t.own at t.there (subst (λ s. HasFedAt s t.c.reader []) (sym t.stage) turn.fed)
    (subst (λ s. FedAt s t.c.at [] l.back came.Send t.c.at) (sym t.stage) (inl (turn.back, refl, refl))) (t.stage ∙ ap ToSend is) counted not_reopened since in
    grind arith

-- after it was sent nothing of the reply is there
nothing_yet : (w : World) (t : Sender w) (l : Connection) (fed : List ℕ) (progress : Progress) (new : Standing) → IsOwned w → AreTold w
    → connection_of (moved w (asks t)) t.k ≡ Some l
    → HasFedAt (Waiting t.step) t.reader fed → FedAt (Waiting t.step) (standing t.c.at.run t.c.at.counts (Waiting t.step)) fed l.back progress new
    → new.stage ≡ ToSend (Operation RewindAgain) → ⊥
nothing_yet w t l fed progress new owned told at had feeds goes =
    let now = standing t.c.at.run t.c.at.counts (Waiting t.step) in
    elim (changed_is (sent_connection (next_text t.c t.b.payload t.step)) w.connections t.k t.k l at) [
      | inl (same, (x, was, is)) ↦
          let (z, d, linked, live, dump) = (owned.own t.k t.own).0 in
          let turn = its_turn w t x d told was (ap (λ (y : Connection). y.dump) (same_Some x z (sym was ∙ linked)) ∙ dump) in
          let back : l.back ≡ [] = ap (λ (y : Connection). y.back) is ∙ turn.2.back in
          let none : [] ≡ fed = one_heard t.reader (wanted_of t.step) [] fed (inr tt) t.fed.unread had.unread in
          nothing_past now new t.step (Operation RewindAgain) t.reader progress t.fed refl
          (subst (λ bytes. FedAt (Waiting t.step) now bytes [] progress new) (sym none) (subst (λ way. FedAt (Waiting t.step) now fed way progress new) back feeds)) goes
      | inr (other, on) ↦ other refl
    ]

pub asked_not_reopened : (w : World) (t : Sender w) → IsOwned w → AreTold w → AreOpened w → AreWritersLast w → AreNotReopened w → AreNotReopened (moved w (asks t))
asked_not_reopened w t owned told opened writers p =
    spared w (moved w (asks t)) record { opens = refl; lists = refl; writings = refl }
    (λ k d has within. elim (sent_dump w t k d has) [
      | inl (same, (e, was, new)) ↦
          (e, subst (λ n. HasDump w n e) (sym same) was, ap (λ (y : AttemptState). y.run) (sym new), ap (λ (y : AttemptState). y.carried) (sym new))
      | inr was ↦ (d, was, refl, refl)
    ]) opened writers p (λ x counted not_reopened. inl counted)
    (λ x k d counted not_reopened since has. elim (sent_dump w t k d has) [
      | inl (same, (e, was, new)) ↦
          subst (λ (z : AttemptState). z.sent ≤ looked_requests) (sym new) (stopped_here w t x e told p was counted not_reopened (subst (HasOpenedSince w x) same since))
      | inr was ↦ p.stopped x k d counted not_reopened since was
    ])
    (λ k i m c step o list own there at other opens mine from lists. (
    let is : caller t.c.number (standing t.c.at.run t.c.at.counts (Waiting t.step)) t.reader ≡ c = same_Some _ c there in
    let its : step ≡ t.step = subst (λ (z : WorldClient). IsAtStep z.at.stage step) (sym is) at in
    p.listed k i m t.c t.step o list own t.there (subst (λ s. IsAtStep s t.step) (sym t.stage) refl) (λ close. other (its ∙ close)) opens mine from lists
    ∙ ap (λ (z : WorldClient). z.at.counts) is))
    (λ k l c fed progress new x own at there had feeds goes counted not_reopened since. (
    let same : k ≡ t.k = same_Some k t.k (sym own ∙ t.own) in
    let is : caller t.c.number (standing t.c.at.run t.c.at.counts (Waiting t.step)) t.reader ≡ c = same_Some _ c there in
    nothing_yet w t l fed progress new owned told (ap (connection_of (moved w (asks t))) (sym same) ∙ at)
    (subst (λ (z : WorldClient). HasFedAt z.at.stage z.reader fed) (sym is) had)
    (subst (λ (z : WorldClient). FedAt z.at.stage z.at fed l.back progress new) (sym is) feeds) goes))
