use Rattle.tape.proofs.Fuses.{passed_count, passed_well}
use Rattle.tape.proofs.fuse_medium.FuseMediumMedium.len.Goals as goal

pub returns-clause-failures : goal.returns-clause-failures
returns-clause-failures g c =
    passed_count c.self.view_is c.pass.ensures.same _ c.count_call.ensures.answer c.if-count_call.false c.count_call.ensures.new c.pass.ensures.new

pub returns-clause-unfailed : goal.returns-clause-unfailed
returns-clause-unfailed g c = λ idle.
    passed_well c.self.view_is c.pass.ensures.same g.M.Medium.failures c.count_call.ensures.new c.pass.ensures.new c.len-found.ensures.same

pub returns-then-count_call-clause-kept : goal.returns-then-count_call-clause-kept
returns-then-count_call-clause-kept g c = λ due. cc
