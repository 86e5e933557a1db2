-- How a request that is carried out changes attempts and their openings.
-- A connection of the client's has one opening at most, whatever happens.
-- The entries that an attempt wrote are on its reel when its own request is carried out after the mark was accepted.
use Rattle.world_model.proofs.Basics.{◌≡◌, ◌≢◌, ◌⊎◌, ℕ, ◌+◌, ◌^◌, ◌<◌, ◌≤◌, true, option_map, Some, Contains, refl, sym, ap, subst, ◌∙◌, inl, inr, arith, Contains-append_left, suc, Bool, false, List, length, Option, append-nil, same_Some}
use Rattle.world_model.proofs.Terms.{PlainReel, Online, Both, TroubledServeStep, session_view, Step, World, Connection, AttemptState, Begun, Count, Opening, numbered, connection_of, opening, noted, answered, HasDone, request_in, IsConnectionSent, AreTold, IsEarnedBy, EachCountHasAttempt, raised, PlainRequest, PlainReply, TapeLibrary, drive_at, PlainSession, Open, Label, opened_reel, written_reel, first_name, AreOpened, IsSessionBefore, IsSingle, AreSingle, PlainEntry, AreHeld, ReelHolds, attempt_written, IsReelWritten}
use Rattle.world_model.proofs.Ground.{changed_is, changed_there, pushed_is, raised_one, OneReading, DroppedWrites, nothing_there, serve_pending, noted_same, Turn, turned, mapped, among_at, place_of}
use Rattle.world_model.proofs.LabelledEvents.{SameNotes, Like, IsFresh, Quietly, served_stands}

-- the attempt of the connection that was served, or another's
pub served_dump : (w : World) (v : Turn w) (j : ℕ) (l : Connection) (d : AttemptState) → connection_of (turned w v) j ≡ Some l → l.dump ≡ Some d
    → ((j ≡ v.k) × ((x : Connection) × (e : AttemptState) × (connection_of w v.k ≡ Some x) × (x.dump ≡ Some e) × (d ≡ noted v.request v.reply e)))
    ⊎ ((j ≢ v.k) × (connection_of w j ≡ Some l))
served_dump w v j l d at dump = grind (arith, changed_is, mapped)

-- the request that was served is that of a step, before which all was done
pub record IsServed (w : World) (v : Turn w) (l : Connection) (d : AttemptState) : Type 0 where
  pub b : Begun
  pub step : Step
  pub begun : numbered w.begun d.run ≡ Some b
  pub done : HasDone b.run (Some v.s) d step
  pub few : d.carried + 1 < 2 ^ 64
  pub asks : v.request ≡ request_in b d step

served_sent : OneReading → DroppedWrites → (w : World) (v : Turn w) (l : Connection) (d : AttemptState) → IsConnectionSent w.begun (Some v.s) l d → IsServed w v l d
served_sent g h w v l d (inl settled) = absurd (nothing_there h w v l.toward settled.unserved)
served_sent g h w v l d (inr (b, step, at, p)) =
    let all = serve_pending g h w v b l.toward d step p in
    grind arith

pub served_step : OneReading → DroppedWrites → (w : World) (v : Turn w) → AreTold w → (l : Connection) (d : AttemptState) → connection_of w v.k ≡ Some l
    → l.dump ≡ Some d → IsServed w v l d
served_step g h w v told l d at dump = served_sent g h w v l d (subst (λ o. IsConnectionSent w.begun o l d) v.live ((told.each v.k l at).sent d dump))

-- the step of the request that was served, where the request is known
pub asked_step : (w : World) (v : Turn w) (request : PlainRequest) → v.request ≡ request
    → TroubledServeStep v.trouble w.server.holders (session_view w.server.library v.s.session) request v.reply (session_view v.library v.session)
asked_step w v request is =
    subst (λ r. TroubledServeStep v.trouble w.server.holders (session_view w.server.library v.s.session) r v.reply (session_view v.library v.session)) is v.served.step

-- all but how many were carried out, and those are no fewer
pub record SameWrites (d e : AttemptState) : Type 0 where
  pub run : e.run ≡ d.run
  pub volume : e.volume ≡ d.volume
  pub first : e.first ≡ d.first
  pub label : e.label ≡ d.label
  pub blocks : e.blocks ≡ d.blocks
  pub mark : e.mark ≡ d.mark
  pub fault : e.fault ≡ d.fault
  pub more : d.carried ≤ e.carried

-- once the mark was accepted no request changes what was
pub marked_writes : (w : World) (v : Turn w) (b : Begun) (d : AttemptState) (step : Step) → HasDone b.run (Some v.s) d step → v.request ≡ request_in b d step → d.mark ≡ true
    → SameWrites d (noted v.request v.reply d)
marked_writes w v b d step done asks marked = grind arith

pub opens_after : (w : World) (v : Turn w) (o : Opening) → Contains w.opens o → Contains (turned w v).opens o
opens_after w v o among = Contains-append_left w.opens _ o among

earned_as : (w : World) (v : Turn w) (x : Count) (l y : Connection) (d e : AttemptState) (b : Begun) → IsEarnedBy w x l d b → connection_of (turned w v) x.connection ≡ Some y → y.dump ≡ Some e
    → SameWrites d e → IsEarnedBy (turned w v) x y e b
earned_as w v x l y d e b p at dump same = grind (arith, opens_after)

pub served_earned : OneReading → DroppedWrites → (w : World) (v : Turn w) → AreTold w → EachCountHasAttempt w → EachCountHasAttempt (turned w v)
served_earned g h w v told earned x among =
    let (l, d, b, p) = earned x among in
    elim (changed_there (answered v.request v.reply) w.connections v.k x.connection l p.there) [
      | inl (same, there) ↦ (
          let s = served_step g h w v told l d (ap (numbered w.connections) (sym same) ∙ p.there) p.dump in
          (_, _, b, earned_as w v x l _ d _ b p there (ap (option_map (noted v.request v.reply)) p.dump) (marked_writes w v s.b d s.step s.done s.asks p.mark)))
      | inr there ↦
          let same : SameWrites d d = record { run = refl; volume = refl; first = refl; label = refl; blocks = refl; mark = refl; fault = refl; more = omega arith } in
          (l, d, b, earned_as w v x l l d d b p there p.dump same)
    ]

-- the attempt that it was before
pub like_back : (o p : Option AttemptState) (d : AttemptState) → Like o p → p ≡ Some d → (e : AttemptState) × (o ≡ Some e) × SameNotes e d
like_back o p d given at = grind arith

-- a connection whose openings stay, and its attempt so far
still_single : (all more : List Opening) (k : ℕ) (d e : AttemptState) → ((i : ℕ) (o : Opening) → numbered more i ≡ Some o → o.connection ≡ k → numbered all i ≡ Some o)
    → ((o : Opening) → Contains all o → Contains more o) → e.carried ≡ d.carried → e.label ≡ d.label → IsSingle all k d → IsSingle more k e
still_single all more k d e placed stay carried label single = record {
  one = λ i j o p at its mine same. single.one i j o p (placed i o at mine) (placed j p its same) mine same;
  none = λ nothing o among mine. (let i = place_of more o among in single.none (sym carried ∙ nothing) o (among_at all i.0 o (placed i.0 o i.1 mine)) mine);
  some = λ labelled. (let s = single.some (sym label ∙ labelled) in (s.0, stay (opening k s.0) s.1));
}

-- no opening is of a connection that is not there
pub quiet_single : (w u : World) → Quietly w u → AreOpened w → AreSingle w → AreSingle u
quiet_single w u q opened single k l d at dump = elim (q.connections.at k l at) [
  | inl (x, was, like) ↦
      let e = like_back x.dump l.dump d like dump in
      subst (λ os. IsSingle os k d) (sym q.opens)
      (still_single w.opens w.opens k e.0 d (λ i o at mine. at) (λ o among. among) e.2.carried e.2.label (single k x e.0 was e.1))
  | inr (new, fresh) ↦
      subst (λ os. IsSingle os k d) (sym q.opens) record {
        one = λ i j o p at other mine its. (let few = (opened.there o (among_at w.opens i o at)).1 in absurd (omega (arith, few, new, mine)));
        none = λ nothing o among mine. (let few = (opened.there o among).1 in omega (arith, few, new, mine));
        some = λ labelled. (let clash = sym (subst IsFresh dump fresh).0 ∙ labelled in absurd cc);
      }
]

-- only an open opens a reel
pub open_step : (b : Begun) (d : AttemptState) (step : Step) (s : TapeLibrary) (session : PlainSession) (reel : List ℕ) → opened_reel (request_in b d step) s session ≡ Some reel → step ≡ Open
open_step b d step s session reel is = grind arith

-- one request more was carried out
pub carried_more : (d : AttemptState) (request : PlainRequest) (reply : PlainReply) → d.carried + 1 < 2 ^ 64 → (noted request reply d).carried ≡ d.carried + 1
carried_more d request reply few = ap raised (noted_same d request reply).carried ∙ raised_one d.carried few

-- once the label was accepted, or is now, a reel was opened
label_some : (w : World) (v : Turn w) (l : Connection) (d : AttemptState) (p : IsServed w v l d) (b : Bool) → d.label ≡ b → AreOpened w → IsSingle w.opens v.k d
    → (noted v.request v.reply d).label ≡ true → (reel : List ℕ) × Contains w.opens (opening v.k reel)
label_some w v l d p true test opened single labelled = single.some test
label_some w v l d p false test opened single labelled =
    let on = subst (λ s. IsSessionBefore s v.s.session) (label_step p.step p.done p.asks) (p.done.stands v.s refl) in
    let name = first_name (drive_at w.server.library on.1.0).stack in
    let last = opened.last v.k v.s name v.live (ap (written_reel w.server.library) on.1.1) in
    (name, among_at w.opens last.0 (opening v.k name) last.1)
  where
    label_step : (step : Step) → HasDone p.b.run (Some v.s) d step → v.request ≡ request_in p.b d step → step ≡ Label
    label_step step done asks = grind arith

pub was_placed_new : (w : World) (v : Turn w) (i : ℕ) (o : Opening) → numbered (turned w v).opens i ≡ Some o
    → (numbered w.opens i ≡ Some o)
    ⊎ ((i ≡ suc (length w.opens)) × ((reel : List ℕ) × (opened_reel v.request v.library v.session ≡ Some reel) × (o ≡ opening v.k reel)))
was_placed_new w v i o at = grind (arith, append-nil, pushed_is)

-- an opening of one connection is none by the request of another
pub placed_before : (w : World) (v : Turn w) (j : ℕ) → j ≢ v.k → (i : ℕ) (o : Opening) → numbered (turned w v).opens i ≡ Some o → o.connection ≡ j
    → numbered w.opens i ≡ Some o
placed_before w v j other i o at mine = grind (arith, was_placed_new)

own_single : (w : World) (v : Turn w) (l : Connection) (d : AttemptState) → IsServed w v l d → AreOpened w → IsSingle w.opens v.k d → IsSingle (turned w v).opens v.k (noted v.request v.reply d)
own_single w v l d p opened single = record {
  one = λ i j o q at other mine its. both i j o q (grind (arith, was_placed_new)) (grind (arith, was_placed_new)) mine its;
  none = λ nothing. (let more = carried_more d v.request v.reply p.few in absurd (omega (arith, more, nothing)));
  some = λ labelled. (let s = label_some w v l d p d.label refl opened single labelled in (s.0, opens_after w v (opening v.k s.0) s.1));
}
  where
    New : ℕ → Type 0
    New i = (i ≡ suc (length w.opens)) × ((reel : List ℕ) × (opened_reel v.request v.library v.session ≡ Some reel))

    nothing : (reel : List ℕ) → opened_reel v.request v.library v.session ≡ Some reel → d.carried ≡ 0
    nothing reel is = grind (arith, open_step)

    both : (i j : ℕ) (o q : Opening) → (numbered w.opens i ≡ Some o) ⊎ New i → (numbered w.opens j ≡ Some q) ⊎ New j → o.connection ≡ v.k → q.connection ≡ v.k → i ≡ j
    both i j o q (inl before) (inl was) mine its = single.one i j o q before was mine its
    both i j o q (inl before) (inr (last, (reel, is))) mine its = absurd (single.none (nothing reel is) o (among_at w.opens i o before) mine)
    both i j o q (inr (last, (reel, is))) (inl was) mine its = absurd (single.none (nothing reel is) q (among_at w.opens j q was) its)
    both i j o q (inr (last, one)) (inr (past, other)) mine its = last ∙ sym past

-- a connection's openings are of one reel
pub one_reel : (opens : List Opening) (k : ℕ) (d : AttemptState) → IsSingle opens k d → (o p : Opening) → Contains opens o → Contains opens p → o.connection ≡ k → p.connection ≡ k
    → o.reel ≡ p.reel
one_reel opens k d single o p among other mine its =
    let i = place_of opens o among in
    let j = place_of opens p other in
    ap (λ (z : Opening). z.reel) (same_Some o p (sym i.1 ∙ ap (numbered opens) (single.one i.0 j.0 o p i.1 j.1 mine its) ∙ j.1))

-- the reel in the drive of a session is the one that its connection opened
pub drive_reel : (w : World) (v : Turn w) (d : AttemptState) (drive : ℕ) (reel : PlainReel) (name : List ℕ) → AreOpened w → IsSingle w.opens v.k d
    → v.s.session ≡ Online drive Both reel
    → Contains w.opens (opening v.k name) → first_name (drive_at w.server.library drive).stack ≡ name
drive_reel w v d drive reel name opened single online among =
    let first = first_name (drive_at w.server.library drive).stack in
    let mine = opened.last v.k v.s first v.live (ap (written_reel w.server.library) online) in
    one_reel w.opens v.k d single (opening v.k first) (opening v.k name) (among_at w.opens mine.0 (opening v.k first) mine.1) among refl refl

pub served_single : OneReading → DroppedWrites → (w : World) (v : Turn w) → AreTold w → AreOpened w → AreSingle w → AreSingle (turned w v)
served_single g h w v told opened single j l d at dump = elim (served_dump w v j l d at dump) [
  | inl (same, (x, e, was, its, new)) ↦
      subst (λ i. IsSingle (turned w v).opens i d) (sym same)
      (subst (IsSingle (turned w v).opens v.k) (sym new) (own_single w v x e (served_step g h w v told x e was its) opened (single v.k x e was its)))
  | inr (other, was) ↦ still_single w.opens _ j d d (placed_before w v j other) (opens_after w v) refl refl (single j l d was dump)
]

-- what stands on the reel stood there before, so it is what was written
pub marked_stands : (w : World) (v : Turn w) (l : Connection) (d : AttemptState) → IsServed w v l d → d.mark ≡ true → AreHeld w.server → AreHeld (turned w v).server → (b : Begun) (reel : List ℕ)
    → IsReelWritten w v.k b d reel → (entries : List PlainEntry) → ReelHolds (turned w v).server reel entries → entries ≡ attempt_written b.run b.payload d
marked_stands w v l d p marked a c b reel was entries on = elim (served_stands w v a c reel entries on) [
  | inl before ↦ was.stands entries before
  | inr wrote ↦ grind arith
]
