use Rattle.dumpdates.proofs.Terms.{◌/◌, ◌%◌, arith, append_assoc, refl, decimal_digit}
use Rattle.dumpdates.proofs.ctime.push_two.Goals as goal

pub returns-clause-text : goal.returns-clause-text
returns-clause-text c =
    let tens = decimal_digit (c.args.number / 10) (omega arith) in let ones = decimal_digit (c.args.number % 10) (omega arith) in
    rw (c.push_number-2.ensures.text, c.push_number.ensures.text, c.from.ensures, c.from-2.ensures, append_assoc, tens, ones) refl
