use Rattle.std.proofs.Common.{◌≡◌}
use Rattle.world_host.specs.Servers.{hosted, all_ended}
use Rattle.world_host.proofs.host.Host.restart.Given as goal

abbrev pub invariant-loop-place : goal.invariant-loop-place
invariant-loop-place l = l.self ≡ hosted (all_ended l.initial.self.server l.place) l.initial.self.ready
