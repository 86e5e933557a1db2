use Rattle.rdump_net.proofs.Words.{◌≡◌, Some, true, inl, inr, length, rules}
use Rattle.rdump_net.proofs.Observed.{none_logged}
use Rattle.rdump_net.proofs.kept.keep_up.Goals as goal

pub returns-then-eq-clause-put : goal.returns-then-eq-clause-put
returns-then-eq-clause-put g c =
    let counted : c.args.kept.now ≡ Some (length c.args.client.now.at.counts) = search rules in
    (counted, inl (counted, none_logged g.O.DumpObserver.logs c.args.observer.now))

pub returns-clause-put : goal.returns-clause-put
returns-clause-put g c =
    let kept : c.keep.result ≡ true = cc in
    (search rules, inr (rw kept at c.keep.ensures.logs))
