use Rattle.rmt_wire.proofs.Words.{subst, sym, reply_held, ReplyIsNext, plain_reply_front_result, reply_held_after, IsWithinIfSome, plain_wanted, plain_wanted_if_some}
use Rattle.rmt_wire.proofs.ReplyNexts.{some_next}
use Rattle.rmt_wire.proofs.reply.reader.first_reply.Goals as goal

pub returns-in-Some-clause-next : goal.returns-in-Some-clause-next
returns-in-Some-clause-next c =
    let found = c.reply_front.result in
    let kept = c.args.unread.now in
    let within = subst (λ o. IsWithinIfSome (plain_wanted_if_some o)) c.in-Some.is c.requires in
    subst (λ o. ReplyIsNext (reply_held (plain_wanted_if_some o) kept) (plain_reply_front_result found)
    (reply_held_after found (reply_held (plain_wanted_if_some o) kept))) (sym c.in-Some.is)
    (some_next (plain_wanted c.in-Some.wanted) kept found within c.reply_front.ensures.value)
