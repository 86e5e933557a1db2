use Rattle.remote_tape.proofs.Heard.{awaits_more, brings_reply, brings_fault, more_follows}
use Rattle.remote_tape.proofs.tape.whole_reply.Goals as goal

pub returns-in-Ok-Some-default-eq0 : goal.returns-in-Ok-Some-default-eq0
returns-in-Ok-Some-default-eq0 c = λ wanted bytes u enough.
    let seen = rw (c.in-Ok-Some-default-eq0.field-0-is, c.in-Ok-Some-default-eq0.field-0-0-1-test) at c.in-Ok-Some-default-eq0.ensures.next in
    brings_reply wanted bytes c.args.reader.now _ seen u

pub returns-in-Ok-Some : goal.returns-in-Ok-Some
returns-in-Ok-Some c = λ wanted bytes u enough.
    more_follows wanted bytes c.args.reader.now _ _ c.in-Ok-Some.field-0-0-1-test.1 (rw c.in-Ok-Some.field-0-is at c.in-Ok-Some.ensures.next) u

pub returns-in-Ok-None : goal.returns-in-Ok-None
returns-in-Ok-None c = λ wanted bytes u enough. absurd (enough (awaits_more wanted bytes c.args.reader.now (rw c.in-Ok-None.field-0-is at c.in-Ok-None.ensures.next) u).begun)

pub returns-in-Err : goal.returns-in-Err
returns-in-Err c = λ wanted bytes u enough. brings_fault wanted bytes c.args.reader.now _ c.in-Err.ensures.next u
