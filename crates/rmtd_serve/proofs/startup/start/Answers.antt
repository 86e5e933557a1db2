use Rattle.std.proofs.Common.{[]}
use Rattle.std.proofs.lemmas.Result.{IfOk-weaker}
use Rattle.rmtd_serve.specs.Startup.IsBegun.{refused}
use Rattle.rmtd_serve.proofs.startup.start.Goals as goal

pub returns-in-Err-clause-started : goal.returns-in-Err-clause-started
returns-in-Err-clause-started g c =
    IfOk-weaker c.report.result _ _ (λ begun ends. ([], refused c.in-Err.ensures.failed ends)) c.report.ensures
