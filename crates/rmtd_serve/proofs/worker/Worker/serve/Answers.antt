use Rattle.std.proofs.Common.{◌∙◌, arith}
use Rattle.rmtd_serve.proofs.Hands.{seat_is_returned}
use Rattle.rmtd_serve.proofs.worker.Worker.serve.Goals as goal

pub invariant_of-result : goal.invariant_of-result
invariant_of-result g c =
    let back = seat_is_returned g.S.Stacks g.S.Reel.Reel _ _ _ c.serve_timed-seat.ensures in record {
      here = c.args.self.here;
      same = back.same ∙ c.args.self.here;
      numbered = back.numbered;
      dealt = back.dealt;
      idle = back.idle;
      enough = omega (arith, back.enough, c.args.self.enough);
    }
