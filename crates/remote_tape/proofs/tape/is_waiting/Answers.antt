use Rattle.remote_tape.proofs.Heard.{awaits_more, enough_some, enough_fault}
use Rattle.remote_tape.proofs.tape.is_waiting.Goals as goal

pub returns-in-Ok-None-clause-more : goal.returns-in-Ok-None-clause-more
returns-in-Ok-None-clause-more c = λ true wanted bytes u. awaits_more wanted bytes c.args.reader.now (rw c.in-Ok-None.field-0-is at c.in-Ok-None.ensures.next) u

pub returns-in-Ok-Some-clause-enough : goal.returns-in-Ok-Some-clause-enough
returns-in-Ok-Some-clause-enough c = λ false wanted bytes u. enough_some wanted bytes c.args.reader.now _ (rw c.in-Ok-Some.field-0-is at c.in-Ok-Some.ensures.next) u

pub returns-in-Err-clause-enough : goal.returns-in-Err-clause-enough
returns-in-Err-clause-enough c = λ false wanted bytes u. enough_fault wanted bytes c.args.reader.now _ c.in-Err.ensures.next u
