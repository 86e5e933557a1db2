use Rattle.std.proofs.Common.{rules}
use Rattle.rmtd_serve.proofs.Endings.{none_alone}
use Rattle.rmtd_serve.proofs.stdio.serve_alone.Goals as goal

pub returns-in_err-server : goal.returns-in_err-server
returns-in_err-server g c = none_alone _ _ _ _ _ (search rules)
