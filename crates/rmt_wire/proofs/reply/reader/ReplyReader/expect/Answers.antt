use Rattle.rmt_wire.proofs.Words.{None, [], ap, drop, subst, sym, ◌∙◌, reply_held, ReplyUnread, plain_wanted}
use Rattle.rmt_wire.proofs.ReplyNexts.{expected}
use Rattle.rmt_wire.proofs.reply.reader.ReplyReader.expect.Goals as goal

pub returns-then-is_empty-clause-waits : goal.returns-then-is_empty-clause-waits
returns-then-is_empty-clause-waits c = λ u.
    let kept = drop c.self.inside.start c.self.inside.buffer.items in
    let moved = subst (λ h. ReplyUnread h None []) (sym c.self.view_is) u in
    expected (plain_wanted c.args.wanted) kept (subst (λ w. ReplyUnread (reply_held w kept) None [])
    (ap (λ h. h.wanted) c.self.view_is ∙ c.requires.given) moved)
