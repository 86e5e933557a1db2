use Rattle.rsim_schedule.proofs.Words.{◌<◌, sym, ap, subst, ◌∙◌, length, slice_get, plain_count, count_line}
use Rattle.rsim_schedule.proofs.Reported.{told_more, count_there}
use Rattle.rsim_schedule.proofs.report.push_counts.Goals.{in-Some+in_ok-push_count, in_default}
use Rattle.rsim_schedule.proofs.report.push_counts.Goals as goal

pub loop-place-preserved : goal.loop-place-preserved
loop-place-preserved c =
    let at = c.loop-place.place in
    elim c.match-get.branch [
      | in-Some+in_ok-push_count w ↦
          ap (λ v. v.items) w.text-is ∙ w.in_ok-push_count.ensures
          ∙ told_more count_line c.args.text.now.items c.loop-place.text.items c.args.world.now.counts at (plain_count w.in-Some.count)
          (sym (w.in-Some.ensures ∙ ap (λ l. slice_get l at) c.counts-counts.ensures)) c.loop-place.invariant
      | in_default w ↦
          absurd (count_there c.args.world.now.counts at
          (subst (λ n. at < n) (c.len-place-end.ensures ∙ ap (λ l. length l) c.counts-counts.ensures) c.loop-place-test.true)
          (w.in_default.ensures ∙ ap (λ l. slice_get l at) c.counts-counts.ensures))
    ]
