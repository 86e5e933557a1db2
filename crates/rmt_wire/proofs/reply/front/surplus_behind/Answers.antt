use Rattle.rmt_wire.proofs.Words.{Ok, ap, sym, ◌∙◌}
use Rattle.rmt_wire.proofs.ReplyNexts.{cut_behind}
use Rattle.rmt_wire.proofs.reply.front.surplus_behind.Goals as goal

pub returns-clause-value : goal.returns-clause-value
returns-clause-value c =
    cut_behind c.args.bytes.now (c.in-Ok-Some.field-0-0-0, c.in-Ok-Some.digits) c.text_len-len.result c.min-kept.result
    (sym c.number_front.ensures.value ∙ c.in-Ok-Some.is ∙ ap Ok c.in-Ok-Some.field-0-is) c.text_len-len.ensures.value c.min-kept.ensures
