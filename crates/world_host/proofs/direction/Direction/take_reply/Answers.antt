use Rattle.std.proofs.Common.{drop, subst}
use Rattle.world_host.specs.Turns.{ServesAt}
use Rattle.world_host.specs.Direction.{PlainDirection}
use Rattle.world_host.proofs.Turns.{serves_behind}
use Rattle.world_host.proofs.direction.Direction.take_reply.Goals as goal

pub returns : goal.returns
returns c =
    subst (λ (v : PlainDirection). ServesAt c.args.trouble c.args.lost c.args.host.now c.args.connection v.way c.serve.result c.serve.new.self (drop c.self.inside.start c.serve.new.back.items))
    c.self.view_is
    (serves_behind c.args.trouble c.args.lost c.args.host.now c.args.connection c.self.inside.bytes.items c.serve.result c.serve.new.self c.serve.new.back.items
    c.self.inside.start c.self.invariant c.serve.ensures)
