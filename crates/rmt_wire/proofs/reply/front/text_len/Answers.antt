use Rattle.rmt_wire.proofs.Words.{ap, length, ◌∙◌, unwrap_or}
use Rattle.rmt_wire.proofs.Texts.{found_len}
use Rattle.rmt_wire.proofs.reply.front.text_len.Goals as goal

pub returns-clause-value : goal.returns-clause-value
returns-clause-value c = c.unwrap_or.ensures ∙ ap (λ r. unwrap_or r (length c.args.bytes.now)) c.find_byte.ensures.place ∙ found_len c.args.bytes.now
