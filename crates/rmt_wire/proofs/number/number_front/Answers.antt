use Rattle.rmt_wire.proofs.Words.{arith, ◌+◌, ◌≤◌, common_steps}
use Rattle.rmt_wire.proofs.number.number_front.Goals as goal

pub loop-len-preserved : goal.loop-len-preserved
loop-len-preserved c =
    let few : c.loop-len.len + 1 ≤ 10 = omega arith in
    (grind (arith, common_steps), omega arith, few)

pub returns-then-ends_number-clause-value : goal.returns-then-ends_number-clause-value
returns-then-ends_number-clause-value c = grind (arith, common_steps)

pub returns-then-not-is_ascii_digit-clause-value : goal.returns-then-not-is_ascii_digit-clause-value
returns-then-not-is_ascii_digit-clause-value c = grind (arith, common_steps)

pub returns-then-is_too_much-clause-value : goal.returns-then-is_too_much-clause-value
returns-then-is_too_much-clause-value c = grind (arith, common_steps)

pub returns-then-len-eq-MOST_DIGITS-clause-value : goal.returns-then-len-eq-MOST_DIGITS-clause-value
returns-then-len-eq-MOST_DIGITS-clause-value c = grind (arith, common_steps)

pub returns-clause-value : goal.returns-clause-value
returns-clause-value c = grind (arith, common_steps)
