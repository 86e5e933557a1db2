use Rattle.std.proofs.Common.{◌&&◌, nat_lt, ap}
use Rattle.dumpdates.proofs.stored.Stored.is_below.Goals as goal

pub returns-then-eq : goal.returns-then-eq
returns-then-eq c = ap (λ same. same && nat_lt c.args.self.now.level c.args.level) (rw c.as_str.ensures.value at c.if-eq.ensures)
