use Rattle.tape.proofs.Words.{arith}
use Rattle.tape.proofs.Stood.{write_stood}
use Rattle.tape.proofs.stops.write_and_reopen.Goals as goal

pub returns-clause-stood : goal.returns-clause-stood
returns-clause-stood g c =
    λ t held. let s = c.write-written.ensures.step t held in grind (arith, c.reopened.ensures.stood s.0 s.1, write_stood _ _ t s.0 _ s.2)

pub returns-clause-step : goal.returns-clause-step
returns-clause-step g c = λ t held. let s = c.write-written.ensures.step t held in grind (arith, c.reopened.ensures.stood s.0 s.1)
