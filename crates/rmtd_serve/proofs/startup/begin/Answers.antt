use Rattle.std.proofs.lemmas.Result.{IfOk-weaker}
use Rattle.rmtd_serve.specs.Startup.IsBegun.{followed}
use Rattle.rmtd_serve.proofs.startup.begin.Goals as goal

pub returns-in-Ok-clause-begun : goal.returns-in-Ok-clause-begun
returns-in-Ok-clause-begun g c =
    IfOk-weaker c.serve_line.result _ _ (λ begun done. followed c.in-Ok.line c.in-Ok.ensures.line done) c.serve_line.ensures.done
