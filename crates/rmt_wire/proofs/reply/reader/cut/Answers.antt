use Rattle.rmt_wire.proofs.Words.{sym, ◌∙◌}
use Rattle.rmt_wire.proofs.ReplyNexts.{cut_kept}
use Rattle.rmt_wire.proofs.reply.reader.cut.Goals as goal

pub returns-then-is_some-clause-kept : goal.returns-then-is_some-clause-kept
returns-then-is_some-clause-kept c =
    cut_kept c.args.wanted c.as_slice.result.now c.args.buffer.now.items c.remove.new.buffer.items c.args.start c.surplus-at.result.0 c.surplus-at.result.1
    (sym c.is_some.ensures ∙ c.if-is_some.true) c.requires c.as_slice.ensures c.surplus-at.ensures.value c.surplus-at.ensures.within c.remove.ensures.items
