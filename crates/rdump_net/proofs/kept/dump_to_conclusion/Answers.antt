use Rattle.std.proofs.Common.{None, Some, inl, inr, refl, ap}
use Rattle.rdump_net.proofs.Keeping.{finish_ends, kept_up, never_unkept, nothing_kept, round_ends, round_on, unkept_ends}
use Rattle.rdump_net.proofs.kept.dump_to_conclusion.Goals as goal

pub returns-in-Finished : goal.returns-in-Finished
returns-in-Finished g c = record {
  kept = finish_ends nothing_kept c.finish.ensures.printed (inl refl);
  able = λ either. elim either [
    | inl e ↦ absurd (never_unkept _ _ _ _ c.finish.ensures.printed.3 e)
    | inr e ↦ absurd (c.finish.ensures.stays e)
  ];
}

pub returns-in-Some : goal.returns-in-Some
returns-in-Some g c =
    let up = rw c.if-not-keep_up.false at c.keep_up.ensures.put in
    record {
      kept = round_ends (kept_up c.loop.invariant.kept up) up.0 c.round.ensures.talks c.round.ensures.told.logged c.in-Some.ensures.printed (λ e. c.in-Some.ensures.still (ap Some e));
      able = λ either. elim either [
        | inl e ↦ absurd (never_unkept _ _ _ _ c.in-Some.ensures.printed.ends e)
        | inr e ↦ c.loop.invariant.quiet (c.keep_up.ensures.quiet (c.in-Some.ensures.able (ap Some e)))
      ];
    }

pub loop-init : goal.loop-init
loop-init g c = record { kept = nothing_kept; quiet = λ h. h }

pub loop-preserved : goal.loop-preserved
loop-preserved g c =
    let up = rw c.if-not-keep_up.false at c.keep_up.ensures.put in
    record {
      kept = round_on (kept_up c.loop.invariant.kept up) up.0 c.round.ensures.talks c.round.ensures.told.logged c.in_default-round.ensures.printed;
      quiet = λ h. c.loop.invariant.quiet (c.keep_up.ensures.quiet (c.round.ensures.told.quiet h));
    }

pub returns-then-not-keep_up : goal.returns-then-not-keep_up
returns-then-not-keep_up g c = record {
  kept = unkept_ends c.loop.invariant.kept (rw c.if-not-keep_up.true at c.keep_up.ensures.put) c.unkept.ensures;
  able = λ either. c.loop.invariant.quiet (c.keep_up.ensures.able c.if-not-keep_up.true);
}

pub returns-then-not-keep_up-2 : goal.returns-then-not-keep_up-2
returns-then-not-keep_up-2 g c = record {
  kept = unkept_ends c.loop.invariant.kept (rw c.if-not-keep_up-2.true at c.keep_up-2.ensures.put) c.unkept-then-not-keep_up-2.ensures;
  able = λ either. c.loop.invariant.quiet (c.keep_up-2.ensures.able c.if-not-keep_up-2.true);
}

pub returns : goal.returns
returns g c =
    let up = rw c.if-not-keep_up-2.false at c.keep_up-2.ensures.put in
    record {
      kept = finish_ends (kept_up c.loop.invariant.kept up) c.finish-2.ensures.printed (inr up.0);
      able = λ either. elim either [
        | inl e ↦ absurd (never_unkept _ _ _ _ c.finish-2.ensures.printed.3 e)
        | inr e ↦ absurd (c.finish-2.ensures.stays e)
      ];
    }
