use Rattle.rmt_wire.proofs.ReplyNexts.{text_begun, text_whole, other_texts}
use Rattle.rmt_wire.proofs.laws.long_texts.Goals as goal

pub returns-clause-begun : goal.returns-clause-begun
returns-clause-begun c = text_begun

pub returns-clause-whole : goal.returns-clause-whole
returns-clause-whole c = text_whole

pub returns-clause-others : goal.returns-clause-others
returns-clause-others c = other_texts
