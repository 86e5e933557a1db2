-- The look at the reel of a count shows the label of its volume, which the client has counted.
use Rattle.world_model.proofs.Basics.{◌≡◌, ◌≢◌, ◌⊎◌, ℕ, ◌-◌, ◌≤◌, List, ◌∷◌, ◌++◌, length, length-append, take, None, Some, Contains, refl, sym, ap, subst, ◌∙◌, inr, arith, replicate, take_all, length-replicate, same_Some, inl}
use Rattle.world_model.proofs.Terms.{Read, Data, Error, PlainEntry, entries_of, Record, Both, PlainReel, session_view, Online, TroubledServeStep, PlainRun, IsRun, label, label_lines, label_bytes, counted_label, IsAtStep, IsLawful, Look, World, Connection, AttemptState, Begun, WorldClient, Count, numbered, connection_of, opening, HasCountOf, AreHeld, ReelHolds, AreLaid, IsNotReopened, whole_volume, AreNamed, AreOpened, AreWritersLast, AreSingle, AreLabelled, EachCountHasAttempt, IsSessionBefore, request_in, IsAttempt, AreTold, HasOpenedSince, AreNotReopened, PlainReply, Trouble, SessionView}
use Rattle.world_model.proofs.Ground.{among_at, Turn, called}
use Rattle.world_model.proofs.SentTexts.{few_volumes, label_short}
use Rattle.world_model.proofs.LabelledSingle.{IsServed, asked_step, drive_reel}
use Rattle.world_model.proofs.NotReopenedHears.{before_checkpoint}
use Rattle.world_model.proofs.NotReopenedPast.{counted_shown}
use Rattle.world_model.proofs.Counted.{counted_reels}

-- the record that stands there is looked at: an error comes, or its first bytes
look_shows : (trouble : Trouble) (holders : List ℕ) (before : SessionView) (reply : PlainReply) (after : SessionView) (drive : ℕ) (reel : PlainReel)
    (written : List ℕ) (rest : List PlainEntry)
    → before.session ≡ Online drive Both reel → reel.tape.after ≡ Record written ∷ rest
    → TroubledServeStep trouble holders before (Read label_bytes) reply after
    → ((n : ℕ) × (text : List ℕ) × (reply ≡ Error n text)) ⊎ (reply ≡ Data (take label_bytes written))
look_shows trouble holders before reply after drive reel written rest was first step = grind (arith, called)

-- a label is looked at whole
label_whole : (run : PlainRun) (volume first : ℕ) → IsRun run → volume ≤ 999999999999 → first ≤ 999999999999
    → take label_bytes (label run volume first) ≡ label run volume first
label_whole run volume first good v f =
    let size = length-append (label_lines run volume first) (replicate (1024 - length (label_lines run volume first)) 0) in
    let zeros = length-replicate {A = ℕ} (1024 - length (label_lines run volume first)) 0 in
    take_all label_bytes (label run volume first) (omega (arith, label_short run volume first good v f, size, zeros))

-- What stays so, as far as the look rests on it.
pub record Grounds (w : World) : Type 0 where
  pub held : AreHeld w.server
  pub laid : AreLaid w.server
  pub named : AreNamed w
  pub opened : AreOpened w
  pub writers : AreWritersLast w
  pub told : AreTold w
  pub single : AreSingle w
  pub labelled : AreLabelled w
  pub earned : EachCountHasAttempt w
  pub not_reopened : AreNotReopened w

-- The client's own session looks at a reel that it opened after that of a count.
module _ (w : World) (v : Turn w) (c : WorldClient) (x : Count) (k : Grounds w) (l : Connection) (d : AttemptState) (b : Begun) (here : connection_of w v.k ≡ Some l)
    (dump : l.dump ≡ Some d) (served : IsServed w v l d) (look : served.step ≡ Look) (own : w.own ≡ Some v.k) (there : w.caller ≡ Some c)
    (waits : IsAtStep c.at.stage Look)
    (attempt : IsAttempt w.begun c d Look b) (lawful : IsLawful c.at) (counted : Contains w.counts x) (not_reopened : IsNotReopened w x)
    (since : HasOpenedSince w x v.k) where
  -- that opening is not foreign, and its list is the client's
  its_count : (d.run ≡ x.run) × HasCountOf c.at.counts x.volume x.first
  its_count =
      let (i, m, place, less, opened) = since in
      let (j, at, own_open) = not_reopened in
      let earned = k.earned x counted in
      let one = (k.single x.connection earned.0 earned.1 earned.3.there earned.3.dump).one j i (opening x.connection x.reel)
      (opening x.connection x.reel) at place refl refl in
      let (e, (z, on, its), run, list, lists, has) = own_open m (opening v.k x.reel) (omega (arith, one, less)) opened refl in
      let connections : z ≡ l = same_Some z l (sym on ∙ here) in
      let dumps : e ≡ d = same_Some e d (sym its ∙ ap (λ (y : Connection). y.dump) connections ∙ dump) in
      let same = k.not_reopened.listed v.k m m c Look (opening v.k x.reel) list own there waits (λ is. cc) opened refl (omega arith) lists in
      (ap (λ (y : AttemptState). y.run) (sym dumps) ∙ run, subst (λ cs. HasCountOf cs x.volume x.first) same has)

  -- so the look answers by an error, or by the label of a volume that the client has counted
  pub look_finds : ((n : ℕ) × (text : List ℕ) × (v.reply ≡ Error n text)) ⊎
      ((bytes : List ℕ) × (v.reply ≡ Data bytes) × (counted_label c.at.run c.at.counts bytes ≢ None))
  look_finds =
      let (reel, (drive, online), front) = subst (λ s. IsSessionBefore s v.s.session) look (served.done.stands v.s refl) in
      let r = counted_reels w k.held k.laid k.named k.writers k.told k.labelled k.earned k.not_reopened x counted in
      let (i, m, place, less, opened) = since in
      let named = drive_reel w v d drive reel x.reel k.opened (k.single v.k l d here dump) online (among_at w.opens m (opening v.k x.reel) opened) in
      let stands : ReelHolds w.server x.reel (entries_of reel.tape) = inr (v.k, v.s, v.live, (drive, Both, reel, online, named, refl)) in
      let (same, (z, among, volume, first)) = its_count in
      let begun : r.begun ≡ b = same_Some r.begun b (sym r.begun_as ∙ ap (numbered w.begun) (sym same) ∙ attempt.begun_as) in
      let run : r.begun.run ≡ c.at.run = ap (λ (e : Begun). e.run) begun ∙ attempt.run in
      let blocks = ap (λ (y : PlainRun). y.blocks) run in
      let before = before_checkpoint c.at.run 1 0 c.at.counts z lawful.counts among in
      let most = (few_volumes c.at.run 1 0 c.at.counts (omega arith) (omega arith) lawful.counts).0 in
      let limit = lawful.run.blocks in
      let all = label_whole c.at.run x.volume x.first lawful.run (omega (arith, volume, before, most, limit)) (omega (arith, r.within, blocks, limit)) in
      elim (look_shows v.trouble w.server.holders (session_view w.server.library v.s.session) v.reply (session_view v.library v.session) drive reel
      (label c.at.run x.volume x.first) _ online
      (sym (ap (λ f. f ++ reel.tape.after) front) ∙ (r.whole not_reopened).1 (entries_of reel.tape) stands ∙ ap
      (λ y. whole_volume y r.begun.payload x.volume x.first x.count) run)
      (asked_step w v (Read label_bytes) (served.asks ∙ ap (request_in served.b d) look))) [
        | inl error ↦ inl error
        | inr shown ↦ inr (label c.at.run x.volume x.first, shown ∙ ap Data all, counted_shown c.at.run c.at.counts x.volume x.first (z, among, volume, first))
      ]
