use Rattle.rdump_net.proofs.Words.{Closed, Closing, Error, Refusal, refl}
use Rattle.refusals.specs.declared.request.TapeRequest.TheVariants as asked
use Rattle.rdump_net.proofs.Looking.{done_part, fails_by, goes_by}
use Rattle.rdump_net.proofs.look.close_refused.Goals as goal

pub returns-in-Ok : goal.returns-in-Ok
returns-in-Ok g c = λ device. done_part asked.Close (Closing (Refusal c.args.refused c.args.number)) refl c.in-Ok.ensures

pub returns-in-Refused : goal.returns-in-Refused
returns-in-Refused g c = λ device.
    let h = rw c.in-Refused.is at c.in-Err.ensures.1 in goes_by (Closing (Refusal c.args.refused c.args.number)) (Error c.in-Refused.field-0 h.0) refl h.1

pub returns-in-NoReply : goal.returns-in-NoReply
returns-in-NoReply g c = λ device.
    let h = rw c.in-NoReply.is at c.in-Err.ensures.1 in rw c.in-NoReply.is (fails_by (Closing (Refusal c.args.refused c.args.number)) c.in-NoReply.field-0 refl h)
