use Rattle.tape.proofs.Held.{seen, op_adds}
use Rattle.tape.proofs.list.ListReelReel.op.Goals as goal

pub invariant_of-self : goal.invariant_of-self
invariant_of-self c = (seen c.self.invariant c.op.ensures (op_adds c.args.op c.args.count c.if-op-eq-MTWEOF.false)).0

pub returns-clause-call : goal.returns-clause-call
returns-clause-call c = rw (← c.self.view_is) (seen c.self.invariant c.op.ensures (op_adds c.args.op c.args.count c.if-op-eq-MTWEOF.false)).1

pub returns-clause-step : goal.returns-clause-step
returns-clause-step c = rw (← c.self.view_is) (seen c.self.invariant c.op.ensures (op_adds c.args.op c.args.count c.if-op-eq-MTWEOF.false)).2
