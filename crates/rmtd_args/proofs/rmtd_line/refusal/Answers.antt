use Rattle.rmtd_args.proofs.Words.{subst, IfOk-weaker, IsShown}
use Rattle.rmtd_args.proofs.rmtd_line.refusal.Goals as goal

pub returns : goal.returns
returns c = IfOk-weaker c.error.result _ _ (λ e same shown. c.kind.ensures (subst IsShown same shown)) c.error.ensures.kind
