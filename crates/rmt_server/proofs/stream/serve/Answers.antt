use Rattle.std.proofs.Common.{◌∙◌}
use Rattle.rmt_server.proofs.Answering.{run_seats, run_steps}
use Rattle.rmt_server.proofs.stream.serve.Goals as goal

pub returns-clause-served : goal.returns-clause-served
returns-clause-served g c =
    let all = c.converse-ending.ensures.converses in
    let (number, same_seats) = run_seats all.2.run in record {
      read = all.0;
      done = all.2.done;
      rest = all.2.rest;
      consumed = all.1;
      ends = all.2.outcome;
      last = _;
      run = all.2.run;
      ended = c.end.ensures;
      number = c.end.ensures.kept.number ∙ number;
      same_seats = c.end.ensures.same_seats ∙ same_seats;
      steps = λ fails shared may share start tells. (
          let w = run_steps all.2.run fails shared may share start tells in (w.0, w.1, c.end.ensures.step w.0 w.2));
    }
