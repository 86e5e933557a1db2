use Rattle.rmt_wire.proofs.Words.{on_err_weaker, plain_reply}
use Rattle.rmt_wire.proofs.Spelling.{reply_text_spells, beginning_of_first, beginning_past_first, at_failure}
use Rattle.rmt_wire.proofs.reply.writer.write_reply.Goals as goal

pub returns-in_err-output-clause-beginning : goal.returns-in_err-output-clause-beginning
returns-in_err-output-clause-beginning g c =
    let out = rw c.as_slice.ensures at c.in_err-output.ensures.beginning in
    rw (← c.parts-head.ensures.text) (at_failure c.from_residual.result (beginning_of_first _ _ _ c.parts-head.result.1.now out))

pub returns-clause-beginning : goal.returns-clause-beginning
returns-clause-beginning g c =
    let out = rw c.as_slice.ensures at c.in_ok-output.ensures.written in
    rw (← c.parts-head.ensures.text) (on_err_weaker c.output-2.result (beginning_past_first _ _ _ _ c.parts-head.result.1.now out) c.output-2.ensures.beginning)

pub returns-in_err-output-clause-spelled : goal.returns-in_err-output-clause-spelled
returns-in_err-output-clause-spelled g c = reply_text_spells (plain_reply c.args.reply.now) c.requires

pub returns-clause-spelled : goal.returns-clause-spelled
returns-clause-spelled g c = reply_text_spells (plain_reply c.args.reply.now) c.requires
