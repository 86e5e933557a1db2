use Rattle.rmt_wire.proofs.Words.{ap, arith, sym, ◌+◌, ◌-◌, ◌∙◌, ◌≡◌}
use Rattle.std.proofs.lemmas.Result.{MatchResult-from_err}
use Rattle.rmt_wire.proofs.Spelling.{at_success}
use Rattle.rmt_wire.proofs.counted.CountedRead.read.Goals as goal

pub returns-then-is_err-clause-failures : goal.returns-then-is_err-clause-failures
returns-then-is_err-clause-failures g c =
    MatchResult-from_err c.read-given.result _ _ (sym c.is_err.ensures.value ∙ c.if-is_err.true) (λ e. omega (arith, ap (λ s. s.failures) c.self.view_is))

pub returns-then-is_err-clause-lowered : goal.returns-then-is_err-clause-lowered
returns-then-is_err-clause-lowered g c = ap (λ s. s.left - 1) c.self.view_is

pub returns-else-is_err-clause-lowered : goal.returns-else-is_err-clause-lowered
returns-else-is_err-clause-lowered g c = ap (λ s. s.left - 1) c.self.view_is

pub returns-else-is_err-clause-left : goal.returns-else-is_err-clause-left
returns-else-is_err-clause-left g c =
    let left : c.self.inside.left - 1 + 1 ≡ c.args.self.now.left = omega (arith, ap (λ s. s.left) c.self.view_is) in
    at_success c.read-given.result left
