use Rattle.std.proofs.Common.{sym, subst}
use Rattle.rmtd_serve.specs.Serving.{ServedInTurn}
use Rattle.rmtd_serve.specs.Serving.ServedInTurn.{none, one_more}
use Rattle.rmtd_serve.proofs.listening.serve_stream.Goals as goal

pub returns : goal.returns
returns g c =
    let served = c.serve-ending.ensures in
    subst (ServedInTurn c.args.server.now) (sym served.left) (one_more served.done served.finish none served.run)
