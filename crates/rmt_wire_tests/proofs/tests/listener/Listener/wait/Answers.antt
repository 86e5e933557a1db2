use Rattle.rmt_wire.specs.Lent.{plain_wanted}
use Rattle.rmt_wire_tests.proofs.Waiting.{waits_after_expect}
use Rattle.rmt_wire_tests.proofs.tests.listener.Listener.wait.Goals as goal

pub invariant_of-self : goal.invariant_of-self
invariant_of-self c =
    waits_after_expect (plain_wanted c.within.result) c.self.inside.is_waiting c.self.inside.reader c.expect.new.self c.expect.ensures.waits c.expect.ensures.for_good c.if-self.false c.self.invariant
