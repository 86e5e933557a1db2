use Rattle.rmt_wire.proofs.Words.{[], subst, ReplyUnread, plain_wanted_if_some}
use Rattle.rmt_wire.proofs.ReplyNexts.{all_given}
use Rattle.rmt_wire.proofs.reply.reader.ReplyReader.is_empty.Goals as goal

pub returns-clause-seen : goal.returns-clause-seen
returns-clause-seen c = λ true.
    subst (λ h. ReplyUnread h h.wanted []) c.self.view_is
    (all_given c.self.inside.buffer.items c.self.inside.start
    (plain_wanted_if_some c.self.inside.wanted) c.len.result c.len.ensures.value c.self.invariant.0 true)
