use Rattle.rmt_wire.proofs.Words.{arith, common_steps, head_of, letter_head}
use Rattle.rmt_wire.proofs.request.head.head_of.Goals as goal

pub returns-in-79-clause-value : goal.returns-in-79-clause-value
unfolding head_of letter_head
returns-in-79-clause-value c = grind (arith, common_steps)

pub returns-in-67-clause-value : goal.returns-in-67-clause-value
unfolding head_of letter_head
returns-in-67-clause-value c = grind (arith, common_steps)

pub returns-in-87-clause-value : goal.returns-in-87-clause-value
unfolding head_of letter_head
returns-in-87-clause-value c = grind (arith, common_steps)

pub returns-in-82-clause-value : goal.returns-in-82-clause-value
unfolding head_of letter_head
returns-in-82-clause-value c = grind (arith, common_steps)

pub returns-in-73-clause-value : goal.returns-in-73-clause-value
unfolding head_of letter_head
returns-in-73-clause-value c = grind (arith, common_steps)
