use Rattle.std.proofs.Common.{◌≡◌, length, refl, Ok, Err, rules, arith}
use Rattle.std.proofs.lemmas.Grind.{common_steps}
use Rattle.rmt_server.proofs.Names.{RECORD_LIMIT, Bytes}
use Rattle.rmt_server.proofs.ServeSteps.{carried}
use Rattle.rmt_server.proofs.Spelling.{outcome_spelled, number_short}
use Rattle.rmt_server.proofs.session.Session.carry_out.Goals as goal

pub returns-in-Ok-Bytes : goal.returns-in-Ok-Bytes
returns-in-Ok-Bytes g c =
    let same : c.as_slice.result.now ≡ c.dispatch-outcome.new.buffer = grind (arith, common_steps) in
    let full : length c.dispatch-outcome.new.buffer ≡ RECORD_LIMIT =
    omega (arith, c.dispatch-outcome.auto.buffer, c.as_mut_slice.ensures.len, c.self.invariant) in
    let said = outcome_spelled (Ok (Bytes c.in-Ok-Bytes.count)) c.dispatch-outcome.new.buffer full tt in
    rw same ((refl, λ x. tt, carried c.requires (search rules)), record { rests = tt; spelling = λ s. said.0; short = λ s. said.1 })

pub returns-in-Ok-Number : goal.returns-in-Ok-Number
returns-in-Ok-Number g c =
    ((refl, λ x. tt, carried c.requires (search rules)), record { rests = tt; spelling = search rules; short = λ s. number_short _ (search rules) })

pub returns-in-Err : goal.returns-in-Err
returns-in-Err g c =
    let full : length c.dispatch-outcome.new.buffer ≡ RECORD_LIMIT =
    omega (arith, c.dispatch-outcome.auto.buffer, c.as_mut_slice.ensures.len, c.self.invariant) in
    let said = outcome_spelled (Err c.in-Err.refusal) c.dispatch-outcome.new.buffer full tt in
    rw c.reply.ensures ((refl, λ x. tt, carried c.requires (search rules)), record { rests = tt; spelling = λ s. said.0; short = λ s. said.1 })
