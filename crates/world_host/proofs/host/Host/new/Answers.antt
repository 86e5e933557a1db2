use Rattle.world_host.proofs.Hosted.{first_hosting}
use Rattle.world_host.proofs.host.Host.new.Goals as goal

pub invariant_of-result : goal.invariant_of-result
invariant_of-result c = (
  rw c.new-2.ensures.items (first_hosting _ c.args.drives c.in_ok-holds.ensures c.requires.all c.requires.told c.requires.quiet c.requires.rested),
  λ bad. absurd cc,
)
