use Rattle.rmt_wire.proofs.Words.{[], subst, Unread}
use Rattle.rmt_wire.proofs.Nexts.{all_given}
use Rattle.rmt_wire.proofs.request.reader.RequestReader.is_empty.Goals as goal

pub returns-clause-seen : goal.returns-clause-seen
returns-clause-seen c = λ true.
    subst (λ h. Unread h []) c.self.view_is
    (all_given c.self.inside.buffer.items c.self.inside.start c.self.inside.dropped c.len.result c.len.ensures.value c.self.invariant.0 c.self.invariant.3 true)
