use Rattle.dumpdates.proofs.Terms.{◌≡◌, ◌<◌, take, arith, get_or, sym, ◌∙◌, OnTrue_at, nat_tests, length-take-le, digit_at, digit_from_value, digit_value}
use Rattle.std.proofs.lemmas.Int.Digits.{digits_more, digits_value_more}
use Rattle.dumpdates.proofs.Digits.{below_power, few_digits, digit_known}
use Rattle.dumpdates.proofs.fields.number.Goals as goal

pub returns-then-not-is_ascii_digit-clause-value : goal.returns-then-not-is_ascii_digit-clause-value
returns-then-not-is_ascii_digit-clause-value c = λ n s. grind (arith, nat_tests, digit_at c.args.text.now c.loop-byte.byte-index s.digits)

small_digit : (c : goal.After-from) → digit_value (get_or c.args.text.now c.loop-byte.byte-index 0) < 10
small_digit c = OnTrue_at c.if-not-is_ascii_digit.false c.is_ascii_digit.ensures.bound

here : (c : goal.After-from) → digit_value (get_or c.args.text.now c.loop-byte.byte-index 0) ≡ c.from.result
here c = (digit_known _ (digit_from_value _ (small_digit c))).0 ∙ sym c.from.ensures

pub overflow_mul-value : goal.overflow_mul-value
overflow_mul-value c = omega (arith, few_digits c.args.text.now c.loop-byte.byte-index c.loop-byte.invariant.digits)

pub overflow_add-value : goal.overflow_add-value
overflow_add-value c = omega (arith, few_digits c.args.text.now c.loop-byte.byte-index c.loop-byte.invariant.digits, small_digit c, here c)

pub loop-byte-preserved : goal.loop-byte-preserved
loop-byte-preserved c = let text = c.args.text.now in let i = c.loop-byte.byte-index in record {
  digits = digits_more 10 text i c.loop-byte-test.true c.loop-byte.invariant.digits (small_digit c);
  value = omega (arith, here c, digits_value_more 10 text i c.loop-byte-test.true);
  few = c.loop-byte.invariant.few;
}

pub returns-clause-small : goal.returns-clause-small
returns-clause-small c =
    let text = c.args.text.now in let i = c.loop-byte.byte-index in
    rw c.loop-byte.invariant.value (below_power (take i text) c.args.most c.loop-byte.invariant.digits (omega (arith, length-take-le i text)))
