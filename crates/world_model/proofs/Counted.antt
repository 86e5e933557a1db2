-- A reel that was counted and not reopened has the sum of its volume.
-- What a quiet attempt wrote, and what was counted, stand on their reels.
use Rattle.world_model.proofs.Basics.{◌≡◌, sym, subst, ap, ◌∙◌, ◌+◌, ◌≤◌, List, same_Some, arith}
use Rattle.world_model.proofs.Terms.{IsWorldKept, file_sum, World, Begun, whole_volume, ReelHoldsJust, CountedReels, CountedSums, PlainEntry, label, numbered, opening, AreHeld, ReelHolds, AreLaid, AreNamed, AreWritersLast, IsNotReopened, AreLabelled, EachCountHasAttempt, AreTold, AreNotReopened, ReelsNotReopened, LabelledReels}
use Rattle.world_model.proofs.Booked.{among_at}
use Rattle.world_model.proofs.LabelledNames.{stands_somewhere}
use Rattle.world_model.proofs.NotReopenedAlone.{not_reopened_alone}

pub sums_of : (w : World) → CountedReels w → CountedSums w
sums_of w counted x b has begun spared =
    let on = counted x has in
    let same : on.begun ≡ b = (cc) in
    let just : ReelHoldsJust w.server x.reel (whole_volume b.run b.payload x.volume x.first x.count)
    = subst (λ (d : Begun). ReelHoldsJust w.server x.reel (whole_volume d.run d.payload x.volume x.first x.count)) same (on.whole spared) in
    record {
      entries = whole_volume b.run b.payload x.volume x.first x.count;
      holds = just.0;
      sums = λ found there. ap file_sum (just.1 found there);
    }

pub counted_reels : (w : World) → AreHeld w.server → AreLaid w.server → AreNamed w → AreWritersLast w → AreTold w → AreLabelled w → EachCountHasAttempt w → AreNotReopened w
    → CountedReels w
counted_reels w held laid named writers told labelled earned spares x among =
    let e = earned x among in
    let p = e.3 in
    let a = labelled x.connection e.0 e.1 p.there p.dump p.label in
    let same : a.0 ≡ e.2 = same_Some a.0 e.2 (sym a.1 ∙ ap (numbered w.begun) p.run ∙ p.begun) in
    let just : IsNotReopened w x → (entries : List PlainEntry) → ReelHolds w.server x.reel entries
    → entries ≡ whole_volume a.0.run a.0.payload x.volume x.first x.count
    = λ not_reopened entries stands.
    (a.2 x.reel (p.fault, (not_reopened.0, not_reopened.1, not_reopened_alone w x told writers spares.late spares.stopped among not_reopened))).stands entries stands
    ∙ (grind arith) in
    let on = stands_somewhere w.server x.reel held laid (named.opened _ p.opened) in
    record {
      begun = a.0;
      begun_as = ap (numbered w.begun) (sym p.run) ∙ a.1;
      within = subst (λ (b : Begun). x.first + x.count ≤ b.run.blocks) (sym same) p.within;
      opened = p.opened;
      there = named.opened _ p.opened;
      whole = λ not_reopened. (subst (ReelHolds w.server x.reel) (just not_reopened on.0 on.1) on.1, just not_reopened);
    }

pub reels_not_reopened : (w : World) → IsWorldKept w → ReelsNotReopened w
reels_not_reopened w kept x y counted among not_reopened its since =
    not_reopened_alone w x kept.told kept.writers kept.not_reopened.late kept.not_reopened.stopped counted not_reopened y among its since

pub labelled_reels : (w : World) → IsWorldKept w → LabelledReels w
labelled_reels w kept k d reel has label quiet =
    let a = kept.labelled k has.0 d has.1 has.2 label in
    let wrote = a.2 reel quiet in
    let on = stands_somewhere w.server reel kept.held kept.laid (kept.once.opened (opening k reel) (among_at w.opens quiet.1.0 (opening k reel) quiet.1.1)) in
    record {
      begun = a.0;
      begun_as = a.1;
      holds = (subst (ReelHolds w.server reel) (wrote.stands on.0 on.1) on.1, wrote.stands);
      at_end = wrote.behind;
    }
