use Rattle.rmt_wire.proofs.Words.{drop, subst, sym, IsGiven}
use Rattle.rmt_wire.proofs.Given.{more_given}
use Rattle.rmt_wire.proofs.request.reader.RequestReader.push.Goals as goal

pub returns-clause-given : goal.returns-clause-given
returns-clause-given c = λ pushed requests g.
    let first = c.discard_data in
    let old = subst (λ h. IsGiven h pushed requests) (sym c.self.view_is) g in
    let kept = c.append-self-inside.ensures.kept in
    more_given (drop c.self.inside.start first.new.buffer.items) _ _ first.new.dropped kept _ c.discard_data-2.ensures.discardable pushed requests
    (old.0, first.ensures.discardable.unread old.0 old.1, old.2)
