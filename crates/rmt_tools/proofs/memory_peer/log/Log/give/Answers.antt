use Rattle.rmt_tools.proofs.Logging.{logged, refused}
use Rattle.rmt_tools.proofs.memory_peer.log.Log.give.Goals as goal

pub returns-then-flush_ends : goal.returns-then-flush_ends
returns-then-flush_ends c = λ log h.
    logged c.flush_ends.new.self c.self.inside.passed.items c.self.inside.ends c.push_given.new.passed.items _ c.self.view_is (c.flush_ends.ensures.settled c.if-flush_ends.true) c.push_given.ensures log (c.flush_ends.ensures.same log h)

pub returns-else-flush_ends : goal.returns-else-flush_ends
returns-else-flush_ends c = λ log h. refused c.flush_ends.new.self c.flush_ends.result _ c.if-flush_ends.false log (c.flush_ends.ensures.same log h)
