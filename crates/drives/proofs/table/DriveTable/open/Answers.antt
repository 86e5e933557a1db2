use Rattle.std.proofs.Common.{rules, refl, ℕ, ◌<◌, ◌≤◌, sym, subst, ◌∙◌, ap, ◌≡◌, Some, arith}
use Rattle.drives.proofs.Held.{given_back}
use Rattle.drives.proofs.Refused.{latch_refused, word_given_back}
use Rattle.drives.proofs.Names.{given, last_drive, kinds}
use Rattle.drives.proofs.table.DriveTable.open.Goals as goal

some_same : {a b : ℕ} → Some a ≡ Some b → a ≡ b
some_same e = cc

below_all : {a b c : ℕ} → a < b → b ≤ c → a < c
below_all {a} {b} {c} below within = omega arith

pub returns-in-Err-clause-held : goal.returns-in-Err-clause-held
returns-in-Err-clause-held g c = given_back (g.H.Holds.shows c.args.seat.now) (g.H.Holds.shows c.take.new.seat) _ _ c.give.ensures.step c.in_default-take.ensures.step c.in_default-take.ensures.answer.1

pub returns-in-Err-clause-opens : goal.returns-in-Err-clause-opens
returns-in-Err-clause-opens g c =
    let d = c.in-Some.drive in
    let old = g.H.Holds.shows c.args.seat.now in
    let view = c.give.ensures.step ∙ ap (λ v. given v d) c.in_default-take.ensures.step in
    let refused = latch_refused (kinds g.H.Holds g.S.Stacks g.S.Reel.Reel) old (g.H.Holds.shows c.give.new.seat) c.args.name.now c.args.self.now.stacks c.latch.new.self d c.in-Err.fault view c.in-Some.ensures.named c.in-Err.ensures in
    record {
      view = refused.seat;
      own = c.give.ensures.own;
      asked = λ e is. subst (λ n. n < g.H.Holds.drives c.args.self.now.holds) (some_same (sym refused.asked ∙ is)) (below_all c.in-Some.ensures.below c.requires.drives);
      found = λ e n is tells. refused.found ∙ c.in_default-take.ensures.found n (subst (λ m. g.H.Holds.tells c.args.self.now.holds m n) (sym (some_same (sym refused.asked ∙ is))) tells);
      told = λ e n tells. subst (λ m. g.H.Holds.tells c.give.new.self e m)
          (word_given_back old.number d e n (λ same. c.in_default-take.ensures.found n (subst (λ m. g.H.Holds.tells c.args.self.now.holds m n) same tells)))
          (c.give.ensures.told e _ (c.in_default-take.ensures.told e n tells));
      others = λ s n was. c.give.ensures.others s (λ e. n (e ∙ ap (λ v. v.number) c.in_default-take.ensures.step)) (c.in_default-take.ensures.others s n was);
      same_holds = c.give.ensures.same_drives ∙ c.in_default-take.ensures.same_drives;
      same_seats = c.give.ensures.same_seats ∙ c.in_default-take.ensures.same_seats;
      step = refused.step;
      call = refused.call;
    }

pub returns-in_default-clause-opens : goal.returns-in_default-clause-opens
returns-in_default-clause-opens g c = record {
  view = refl;
  own = c.requires.seat;
  asked = λ d is. absurd cc;
  found = λ d n is tells. absurd cc;
  told = λ d n tells. tells;
  others = λ s n was. was;
  same_holds = refl;
  same_seats = refl;
  step = λ s h. (s, h, ((c.in_default.ensures.named s h), refl));
  call = refl;
}

pub returns-in-Busy-clause-opens : goal.returns-in-Busy-clause-opens
returns-in-Busy-clause-opens g c =
    let d = c.in-Some.drive in
    let asked : last_drive (g.H.Holds.shows c.take.new.seat) ≡ Some d = ap last_drive c.in-Busy.ensures.step in
    let below : d < g.H.Holds.drives c.args.self.now.holds = below_all c.in-Some.ensures.below c.requires.drives in
    record {
      view = (c.in-Busy.ensures.answer, (d, c.in-Busy.ensures.step));
      own = c.in-Busy.ensures.own;
      asked = λ e is. subst (λ n. n < g.H.Holds.drives c.args.self.now.holds) (some_same (sym asked ∙ is)) below;
      found = λ e n is tells. c.in-Busy.ensures.found n (subst (λ m. g.H.Holds.tells c.args.self.now.holds m n) (sym (some_same (sym asked ∙ is))) tells);
      told = search rules;
      others = c.in-Busy.ensures.others;
      same_holds = c.in-Busy.ensures.same_drives;
      same_seats = c.in-Busy.ensures.same_seats;
      step = λ s h. (s, h, (d, asked, c.in-Some.ensures.named s h, refl));
      call = refl;
    }

pub returns-in-Ok-clause-opens : goal.returns-in-Ok-clause-opens
returns-in-Ok-clause-opens g c =
    let d = c.in-Some.drive in
    let take = c.in_default-take.ensures in
    let asked : last_drive (g.H.Holds.shows c.take.new.seat) ≡ Some d = ap last_drive take.step in
    let below : d < g.H.Holds.drives c.args.self.now.holds = below_all c.in-Some.ensures.below c.requires.drives in
    record {
      view = (take.answer.0, take.answer.1, take.answer.2, take.step);
      own = take.own;
      asked = λ e is. subst (λ n. n < g.H.Holds.drives c.args.self.now.holds) (some_same (sym asked ∙ is)) below;
      found = λ e n is tells. take.found n (subst (λ m. g.H.Holds.tells c.args.self.now.holds m n) (sym (some_same (sym asked ∙ is))) tells);
      told = take.told;
      others = take.others;
      same_holds = take.same_drives;
      same_seats = take.same_seats;
      step = λ s h. (let n = c.in-Ok.ensures.step s h in (n.0, n.1, (asked, c.in-Some.ensures.named s h, n.2)));
      call = c.in-Ok.ensures;
    }
