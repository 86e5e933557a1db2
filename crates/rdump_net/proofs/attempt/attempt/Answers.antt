use Rattle.rdump_net.proofs.Growing.{talked_counts}
use Rattle.rdump_net.proofs.Observed.{observes_then}
use Rattle.rdump_net.proofs.Talking.{followed, from_nowhere, hung_up}
use Rattle.rdump_net.proofs.attempt.attempt.Goals as goal

pub returns-in-Failed : goal.returns-in-Failed
returns-in-Failed g c =
    let talks = followed c.begin.ensures.talks (followed (from_nowhere c.talk-progress.ensures.talks) (hung_up c.hang_up.ensures)) in
    record {
      talks = talks;
      still = λ e. (cc);
      grows = talked_counts c.begin.ensures.fed talks;
      held = λ e. (cc);
      kept = λ e. (cc);
      observed = observes_then c.talk-progress.ensures.observed record { logged = c.failed.ensures.logs; quiet = c.failed.ensures.quiet };
    }

pub returns-in_default-progress : goal.returns-in_default-progress
returns-in_default-progress g c =
    let talks = followed c.begin.ensures.talks (followed (from_nowhere c.talk-progress.ensures.talks) (hung_up c.hang_up.ensures)) in
    record { talks = talks; still = λ e. (cc); grows = talked_counts c.begin.ensures.fed talks; held = λ e. (cc); kept = λ e. (cc); observed = c.talk-progress.ensures.observed }
