use Rattle.rmt_wire.proofs.ReplyNexts.{cut_error}
use Rattle.rmt_wire.proofs.reply.front.surplus.Goals as goal

pub returns-clause-value : goal.returns-clause-value
returns-clause-value c =
    let cut = c.surplus_behind-at in
    cut_error c.args.bytes.now cut.result.0 cut.result.1 c.in-len1-up.len_at_least c.if-letter-ne69.false cut.ensures.value
