use Rattle.std.proofs.Common.{arith}
use Rattle.world_host.proofs.Hosted.{made_hosting}
use Rattle.world_host.proofs.host.Host.build_connection.Goals as goal

pub invariant_of-self-2 : goal.invariant_of-self-2
invariant_of-self-2 c = (
  rw c.reserve.ensures.items (made_hosting _ _ c.self.inside.next c.made-next.result.0 c.self.invariant.0
      (rw c.replace.ensures.value at c.made-next.ensures.made)),
  λ whole. omega (arith, c.reserve.ensures.len, c.in_ok-reserve.ensures.ok),
)
