use Rattle.rmt_wire.proofs.Words.{arith, ap, drop, subst, sym, take, ◌∙◌, common_steps, ReplyUnread, kept_while, plain_wanted_if_some}
use Rattle.rmt_wire.proofs.ReplyNexts.{unread_more}
use Rattle.rmt_wire.proofs.reply.reader.ReplyReader.push.Goals as goal

pub returns-clause-unread : goal.returns-clause-unread
returns-clause-unread c = λ wanted bytes u.
    let inside = c.self.inside in
    let was = plain_wanted_if_some inside.wanted in
    unread_more was (drop inside.start inside.buffer.items) (take c.min-count.result c.args.piece.now) _ bytes wanted
    (c.cut.ensures.kept ∙ ap (kept_while was) c.append-start.ensures.kept) (subst (λ h. ReplyUnread h wanted bytes) (sym c.self.view_is) u)

pub invariant_of-self : goal.invariant_of-self
invariant_of-self c = grind (arith, common_steps)
