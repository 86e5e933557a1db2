use Rattle.tape.proofs.Words.{refl, sym, ◌∙◌}
use Rattle.tape.proofs.Fuses.{passed_count, passed_well, stopped_cut}
use Rattle.tape.proofs.fuse_medium.FuseMediumMedium.cut.Goals as goal

pub returns-else-self-gt0-clause-call : goal.returns-else-self-gt0-clause-call
returns-else-self-gt0-clause-call g c = stopped_cut _ _ _ _ _ _ _ _ refl (sym c.count_call.ensures.answer ∙ c.if-count_call.true) c.count_call.ensures.new

pub returns-clause-failures : goal.returns-clause-failures
returns-clause-failures g c =
    passed_count c.self.view_is c.pass.ensures.same _ c.count_call.ensures.answer c.if-count_call.false c.count_call.ensures.new c.pass.ensures.new

pub returns-clause-unfailed : goal.returns-clause-unfailed
returns-clause-unfailed g c = λ idle.
    passed_well c.self.view_is c.pass.ensures.same g.M.Medium.failures c.count_call.ensures.new c.pass.ensures.new c.cut-cut.ensures.same
