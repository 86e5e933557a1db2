use Rattle.dump_client.proofs.Attempt.{◌≡◌, [], arith, rules, common_steps, Close}
use Rattle.dump_client.proofs.Listening.{waiting_anew}
use Rattle.dump_client.proofs.Requests.{carried}
use Rattle.dump_client.proofs.client.Client.next_request.Goals as goal

pub invariant_of-self : goal.invariant_of-self
invariant_of-self g c = let fed = c.self.invariant.1 in (search rules, (fed.0, grind (arith, common_steps, waiting_anew, fed.1)))

pub invariant_of-self-then-eq : goal.invariant_of-self-then-eq
invariant_of-self-then-eq g c = (grind (arith, common_steps), ([], grind (arith, common_steps)))

pub returns-in-Err-2-clause-asked : goal.returns-in-Err-2-clause-asked
returns-in-Err-2-clause-asked g c =
    let h = c.in-Err.ensures.appended in
    rw (← c.self.view_is, ← c.in-ToSend.ensures.value) (search rules, h.0, h.1, c.fail.ensures.failed.1)

pub returns-in-Err-clause-asked : goal.returns-in-Err-clause-asked
returns-in-Err-clause-asked g c =
    let h = c.in-Err.ensures.appended in
    let close : c.in-ToSend.step ≡ Close = grind arith in
    rw (← c.self.view_is, ← c.in-ToSend.ensures.value) (close, grind (arith, h.0), h.1, c.finish.ensures.over.1)

pub returns-in-Ok-clause-carries : goal.returns-in-Ok-clause-carries
returns-in-Ok-clause-carries g c = λ ok payload held.
    let h = c.in-Ok.ensures.appended in
    rw (c.wait.ensures.waits) (carried (λ p. g.B.Blocks.holds c.self.inside.source p) c.self.inside.ledger.at.run _ c.in-ToSend.step h.0 _ _ payload h.1 h.3 ((c.push_step.ensures.same_blocks payload).1 held))
