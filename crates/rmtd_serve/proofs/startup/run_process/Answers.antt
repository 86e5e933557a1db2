use Rattle.std.proofs.Common.{[], refl}
use Rattle.std.proofs.lemmas.Result.{IfOk-weaker}
use Rattle.rmtd_serve.specs.Startup.IsBegun.{refused}
use Rattle.rmtd_serve.proofs.startup.run_process.Goals as goal

pub returns-in-Err-clause-started : goal.returns-in-Err-clause-started
returns-in-Err-clause-started g c = IfOk-weaker c.report.result _ _ (λ begun ends. ([], refused (refl, refl) ends)) c.report.ensures
