use Rattle.rmt_tools.proofs.Logging.{one_end}
use Rattle.rmt_tools.proofs.memory_peer.log.Log.end.Goals as goal

pub returns : goal.returns
returns c = λ log h. one_end c.args.self.now c.self.inside.passed.items c.self.inside.ends c.saturating_add-self-inside.result c.self.view_is c.saturating_add-self-inside.ensures log h
