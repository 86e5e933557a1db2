use Rattle.rdump_net.proofs.Words.{ap, inl, inr, ClientHeld}
use Rattle.rdump_net.proofs.Observed.{observes_both, observes_then}
use Rattle.rdump_net.proofs.rounds.try_volume.Goals as goal

pub report-requires-clause-told : goal.report-requires-clause-told
report-requires-clause-told g c = (c.attempt-attempted.new.observer, c.tell_counts.ensures.logged)

pub report-requires-clause-between : goal.report-requires-clause-between
report-requires-clause-between g c = λ either. elim either [
  | inl is ↦ let still = c.attempt-attempted.ensures.still is in rw (still.0, still.1) tt
  | inr is ↦ let kept = c.attempt-attempted.ensures.kept is in rw (kept.0, c.may_attempt-may.ensures.ready kept.1) tt
]

pub returns-clause-printed : goal.returns-clause-printed
returns-clause-printed g c = c.report.ensures.printed c.args.client.now.at.counts c.volumes-before.ensures c.attempt-attempted.ensures.grows

pub returns-clause-still : goal.returns-clause-still
returns-clause-still g c = λ complete. elim (c.report.ensures.ends complete) [
  | inl is ↦ (c.attempt-attempted.ensures.still is).0
  | inr is ↦ ap (λ (held : ClientHeld g.row.B.Denot). held.at) (c.attempt-attempted.ensures.kept is).0
]

pub returns-clause-told : goal.returns-clause-told
returns-clause-told g c =
    let told = observes_then c.tell_counts.ensures c.report.ensures.observed in
    rw c.volumes-before.ensures at (observes_both c.may_attempt-may.ensures.observed (observes_both c.attempt-attempted.ensures.observed told))

pub returns-clause-able : goal.returns-clause-able
returns-clause-able g c = λ left.
    let told = c.tell_counts.ensures.quiet (c.report.ensures.able left) in
    c.may_attempt-may.ensures.observed.quiet (c.attempt-attempted.ensures.observed.quiet told)
