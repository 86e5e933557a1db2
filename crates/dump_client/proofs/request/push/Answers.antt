use Rattle.dump_client.proofs.Attempt.{refl, arith}
use Rattle.dump_client.proofs.request.push.Goals as goal

pub returns-in-Err : goal.returns-in-Err
returns-in-Err c = (refl, c.in-Err.ensures.spelled, grind arith, c.in-Err.ensures.unchanged.0)
